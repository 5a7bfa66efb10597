-- What is lent has room for what is prepared.
use Rattle.bounds.proofs.Tables.{front-count, space_roomy, limits_within, lower-within, upper-within, next-within, last-within, changed-within, next-long, last-long, check-starts, check-bounds, check-uses, check-is}
use Rattle.std.proofs.Common.{rules}
use Rattle.bounds.proofs.check_in.Goals as goal

pub prepare-n-requires-clause-roomy : goal.prepare-n-requires-clause-roomy
prepare-n-requires-clause-roomy c = space_roomy c.requires.space

pub limits-limits-requires : goal.limits-limits-requires
limits-limits-requires c = limits_within c.requires.space c.prepare-n.ensures c.requires.posed

pub slice_bounds-links-end : goal.slice_bounds-links-end
slice_bounds-links-end c = last-within c.requires.space c.prepare-n.ensures

pub slice_bounds-links-end-2 : goal.slice_bounds-links-end-2
slice_bounds-links-end-2 c = front-count _ _ (last-within c.requires.space c.prepare-n.ensures)

pub slice_bounds-settle_from-end : goal.slice_bounds-settle_from-end
slice_bounds-settle_from-end c = lower-within c.requires.space c.prepare-n.ensures

pub slice_bounds-settle_from-end-2 : goal.slice_bounds-settle_from-end-2
slice_bounds-settle_from-end-2 c = front-count _ _ (lower-within c.requires.space c.prepare-n.ensures)

pub slice_bounds-settle_from-end-3 : goal.slice_bounds-settle_from-end-3
slice_bounds-settle_from-end-3 c = upper-within c.requires.space c.prepare-n.ensures

pub slice_bounds-settle_from-end-4 : goal.slice_bounds-settle_from-end-4
slice_bounds-settle_from-end-4 c = front-count _ _ (upper-within c.requires.space c.prepare-n.ensures)

pub slice_bounds-settle_from-end-5 : goal.slice_bounds-settle_from-end-5
slice_bounds-settle_from-end-5 c = next-within c.requires.space c.prepare-n.ensures (search rules)

pub slice_bounds-settle_from-end-6 : goal.slice_bounds-settle_from-end-6
slice_bounds-settle_from-end-6 c = front-count _ _ (next-within c.requires.space c.prepare-n.ensures (search rules))

pub settle_from-requires-clause-starts : goal.settle_from-requires-clause-starts
settle_from-requires-clause-starts c = check-starts c.requires.space c.prepare-n.ensures c.requires.posed

pub settle_from-requires-clause-bounds : goal.settle_from-requires-clause-bounds
settle_from-requires-clause-bounds c =
    check-bounds c.requires.space c.prepare-n.ensures c.requires.posed c.limits-limits.result c.limits-limits.ensures.limits c.limits-limits.ensures.operands

pub settle_from-requires-clause-next_room : goal.settle_from-requires-clause-next_room
settle_from-requires-clause-next_room c = next-long c.requires.space c.prepare-n.ensures (search rules)

pub settle_from-requires-clause-changed_room : goal.settle_from-requires-clause-changed_room
settle_from-requires-clause-changed_room c = changed-within c.requires.space c.prepare-n.ensures

pub settle_from-requires-clause-last_room : goal.settle_from-requires-clause-last_room
settle_from-requires-clause-last_room c = last-long c.requires.space c.prepare-n.ensures

pub settle_from-requires-clause-uses_room : goal.settle_from-requires-clause-uses_room
settle_from-requires-clause-uses_room c =
    check-uses c.requires.space c.prepare-n.ensures c.requires.posed c.limits-limits.result c.limits-limits.ensures.limits c.limits-limits.ensures.operands

pub returns : goal.returns
returns c =
    check-is c.requires.space c.prepare-n.ensures c.requires.posed c.limits-limits.result c.limits-limits.ensures.limits c.limits-limits.ensures.operands
    c.settle_from.ensures
