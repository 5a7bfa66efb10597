use Rattle.std.proofs.Common.{arith}
use Rattle.std.proofs.lemmas.Grind.{common_steps}
use Rattle.tuples.specs.StepsLaws.{steps_from_none, steps_from_more, padded-none, padded_last}
use Rattle.tuples.proofs.push_steps.Goals as goal

pub loop-i-init : goal.loop-i-init
loop-i-init c = grind (arith, common_steps, steps_from_none, padded-none)

pub loop-i-preserved : goal.loop-i-preserved
loop-i-preserved c = grind (arith, common_steps, steps_from_more, padded_last)
