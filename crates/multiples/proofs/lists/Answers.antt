use Rattle.std.proofs.Common.{arith}
use Rattle.std.proofs.lemmas.Grind.{common_steps}
use Rattle.pairing.specs.Multiples.{has_row, listed}
use Rattle.multiples.proofs.lists.Goals as goal

pub returns-then-contains : goal.returns-then-contains
unfolding listed has_row
returns-then-contains c = grind (arith, common_steps)

pub returns-else-contains : goal.returns-else-contains
unfolding listed has_row
returns-else-contains c = grind (arith, common_steps)
