use Rattle.supertypes.specs.Laws.{range_past, range_there}
use Rattle.std.proofs.Common.{rules}
use Rattle.supertypes.proofs.has_range_at.Goals as goal

pub returns-then-count-a : goal.returns-then-count-a
returns-then-count-a c = search (rules, range_past)

pub returns : goal.returns
returns c = search (rules, range_there)
