use Rattle.std.proofs.Common.{rules}
use Rattle.lowering.specs.Laws.Lowered.{lower-here}
use Rattle.lowering.specs.Coded.{limit_of}
use Rattle.lowering.proofs.rounds.lower_by.Goals as goal

pub returns-then-value-new : goal.returns-then-value-new
returns-then-value-new c = lower-here c.args.old.now c.args.new.now (limit_of c.args.operands.now c.args.limit) c.value-value.ensures (search rules) c.if-value-new.true
