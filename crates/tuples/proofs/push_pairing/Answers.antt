use Rattle.std.proofs.Common.{rules, arith}
use Rattle.std.proofs.lemmas.Grind.{common_steps}
use Rattle.tuples.specs.StepsLaws.{steps_none, steps_first, small_drop}
use Rattle.tuples.proofs.push_pairing.Goals as goal

pub returns-then-count-eq0 : goal.returns-then-count-eq0
returns-then-count-eq0 c = grind (arith, common_steps, steps_none)

pub push_steps-requires-clause-small : goal.push_steps-requires-clause-small
push_steps-requires-clause-small c = search (rules, small_drop)

pub returns : goal.returns
returns c = grind (arith, common_steps, steps_first)
