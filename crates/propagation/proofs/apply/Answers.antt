-- Too few bounds, or the limit put to use on the front of the buffer.
use Rattle.propagation.proofs.Answers.{front-counts, whole-front, apply_short, apply_done}
use Rattle.std.proofs.Common.{rules}
use Rattle.propagation.proofs.apply.Goals as goal

pub returns-then-sizes-sets : goal.returns-then-sizes-sets
returns-then-sizes-sets c = search (rules, apply_short)

pub slice_bounds-lower-end-2 : goal.slice_bounds-lower-end-2
slice_bounds-lower-end-2 c = search (rules, front-counts)

pub lower-lowers-requires : goal.lower-lowers-requires
lower-lowers-requires c = search (rules, whole-front)

pub returns : goal.returns
returns c = search (rules, apply_done)
