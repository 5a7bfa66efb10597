-- `bounds::narrowing::raise` meets its contract. The larger of the two stands there.
use Rattle.bounds.proofs.Starting.{raised-to, raised-not}
use Rattle.std.proofs.Common.{rules}
use Rattle.bounds.proofs.narrowing.raise.Goals as goal

pub returns-then-lower-set : goal.returns-then-lower-set
returns-then-lower-set c = search (rules, raised-to)

pub returns-else-lower-set : goal.returns-else-lower-set
returns-else-lower-set c = search (rules, raised-not)
