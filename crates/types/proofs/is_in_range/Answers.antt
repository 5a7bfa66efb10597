-- `types::is_in_range` meets its contract. A type without a range keeps K3; of others the first member and the last tell.
use Rattle.types.proofs.Ordered.{range_none, range_empty, range_ends}
use Rattle.std.proofs.Common.{rules}
use Rattle.types.proofs.is_in_range.Goals as goal

pub returns-then-not-has_range : goal.returns-then-not-has_range
returns-then-not-has_range c = search (rules, range_none)

pub returns-then-is_empty : goal.returns-then-is_empty
returns-then-is_empty c = search (rules, range_empty)

pub returns : goal.returns
returns c = search (rules, range_ends)
