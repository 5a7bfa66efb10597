-- The report is written whole, since there is room for it.
use Rattle.std.proofs.Common.{rules}
use Rattle.lines_main.proofs.Answered.{written}
use Rattle.lines_main.proofs.write_report.Goals as goal

pub returns : goal.returns
returns g c =
    written c.write_all.result _ _ c.args.text.now _ _ _ c.requires (search rules) c.report-length.ensures.wrote c.write_all.ensures.bytes
