-- What was read decides what is written.
use Rattle.std.proofs.Common.{rules}
use Rattle.lines_main.proofs.Answered.{read-front, answered}
use Rattle.lines_main.proofs.answer.Goals as goal

pub returns : goal.returns
returns g c =
    answered c.write_report.result (g.R.Read.remaining c.args.reader.now) _ _ _
    (read-front _ _ _ c.in_ok-n.n c.in_ok-n.ensures.bytes c.in_ok-n.ensures.end (search rules) c.in_ok-n.ensures.bound.0 c.in_ok-n.ensures.bound.1)
    c.write_report.ensures
