-- The keys are the combinations in the group's columns.
use Rattle.order.specs.Parts.{part-long}
use Rattle.rows.proofs.Groups.{own-keyed, group-is}
use Rattle.std.proofs.Common.{rules}
use Rattle.rows.proofs.group_keeps.Goals as goal

pub slice_bounds-keys-end : goal.slice_bounds-keys-end
slice_bounds-keys-end c = search (rules, part-long)

pub invariant_of-keys : goal.invariant_of-keys
invariant_of-keys c = search (rules, own-keyed)

pub returns : goal.returns
returns c = search (rules, group-is)
