use Rattle.std.proofs.Common.{arith}
use Rattle.std.proofs.lemmas.Grind.{common_steps}
use Rattle.selection.specs.Laws.Upto.{in_group_none, in_group_more, in_group_same}
use Rattle.selection.proofs.push_roles.Goals.{then-number, else-number}
use Rattle.selection.proofs.push_roles.Goals as goal

pub loop-i-init : goal.loop-i-init
loop-i-init c = grind (arith, common_steps, in_group_none)

pub loop-i-preserved : goal.loop-i-preserved
loop-i-preserved c = elim c.if-number.branch [
  | then-number w ↦ grind (arith, common_steps, in_group_more)
  | else-number w ↦ grind (arith, common_steps, in_group_same)
]
