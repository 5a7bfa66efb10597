use Rattle.std.proofs.Common.{arith, ◌≡◌, ◌-◌}
use Rattle.grammar.specs.Awaited.{fields_at}
use Rattle.grammar.proofs.steps.check_at.Goals as goal

pub returns : goal.returns
returns c = let fields : c.args.end - c.args.start ≡ fields_at c.args.place = omega arith in rw fields at c.check_line.ensures
