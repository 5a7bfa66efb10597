-- `bounds::narrowing::cap` meets its contract. The smaller of the two stands there.
use Rattle.bounds.proofs.Starting.{capped_to, capped_not}
use Rattle.std.proofs.Common.{rules}
use Rattle.bounds.proofs.narrowing.cap.Goals as goal

pub returns-then-size-upper : goal.returns-then-size-upper
returns-then-size-upper c = search (rules, capped_to)

pub returns-else-size-upper : goal.returns-else-size-upper
returns-else-size-upper c = search (rules, capped_not)
