use Rattle.std.proofs.Common.{rules}
use Rattle.lowering.specs.Laws.Lowered.{lower-here}
use Rattle.lowering.specs.Coded.{limit_of}
use Rattle.lowering.proofs.rounds.lower.Goals as goal

pub returns-then-value-sizes-clause-sizes_after : goal.returns-then-value-sizes-clause-sizes_after
returns-then-value-sizes-clause-sizes_after c = lower-here c.args.sizes.now c.args.sizes.now (limit_of c.args.operands.now c.args.limit) c.value-value.ensures (search rules) c.if-value-sizes.true
