-- `limits::limits_of` meets its contract. There is room for the types of all roles.
use Rattle.limits.proofs.Preparing.{types-within, types-count, types-known, types-front}
use Rattle.std.proofs.Common.{rules}
use Rattle.limits.proofs.limits_of.Goals as goal

pub slice_bounds-write_limits-end : goal.slice_bounds-write_limits-end
slice_bounds-write_limits-end c = search (rules, types-within)

pub slice_bounds-write_limits-end-2 : goal.slice_bounds-write_limits-end-2
slice_bounds-write_limits-end-2 c = search (rules, types-count)

pub write_limits-requires : goal.write_limits-requires
write_limits-requires c = search (rules, types-known)

pub returns : goal.returns
returns c = search (rules, types-front)
