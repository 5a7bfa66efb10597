use Rattle.supertypes.specs.Laws.{range_root, range_first, range_last}
use Rattle.std.proofs.Common.{rules}
use Rattle.supertypes.proofs.has_range.Goals as goal

pub returns-then-item-eq0 : goal.returns-then-item-eq0
returns-then-item-eq0 c = search (rules, range_root)

pub returns-then-item-ne0 : goal.returns-then-item-ne0
returns-then-item-ne0 c = search (rules, range_first)

pub returns : goal.returns
returns c = search (rules, range_last)
