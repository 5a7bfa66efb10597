-- `averages::divide` meets its contract. Where a remainder is left it is a division of floats.
use Rattle.averages.proofs.Answers.{divides, divides-not}
use Rattle.std.proofs.Common.{rules}
use Rattle.averages.proofs.divide.Goals as goal

pub returns-then-r-q-eq0 : goal.returns-then-r-q-eq0
returns-then-r-q-eq0 c = search (rules, divides)

pub returns : goal.returns
returns c = search (rules, divides-not)
