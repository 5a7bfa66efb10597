use Rattle.std.proofs.Common.{rules, arith}
use Rattle.std.proofs.lemmas.Grind.{common_steps}
use Rattle.population.proofs.Writing.{wrote_none}
use Rattle.population.proofs.PartLaws.{alone_none, alone_more, alone_same}
use Rattle.population.proofs.parts.push_alone.Goals.{then-number-eq0, else-number-eq0}
use Rattle.population.proofs.parts.push_alone.Goals as goal

pub loop-i-init : goal.loop-i-init
loop-i-init c = search (rules, wrote_none, alone_none)

pub loop-i-preserved : goal.loop-i-preserved
loop-i-preserved c = elim c.if-number-eq0.branch [
  | then-number-eq0 w ↦ grind (arith, common_steps, alone_more)
  | else-number-eq0 w ↦ grind (arith, common_steps, alone_same)
]
