-- The answer is that of the narrowed bounds.
use Rattle.bounds.proofs.Starting.{starts-lower, narrowed_bounds, narrowed_long, narrowed_answered}
use Rattle.std.proofs.Common.{rules, arith}
use Rattle.bounds.proofs.settle_from.Goals as goal

pub narrow-requires : goal.narrow-requires
narrow-requires c = search (rules, starts-lower)

pub settle-requires-clause-bounds : goal.settle-requires-clause-bounds
settle-requires-clause-bounds c = search (rules, narrowed_bounds)

pub settle-requires-clause-scratch : goal.settle-requires-clause-scratch
settle-requires-clause-scratch c =
    let long = narrowed_long c.narrow.ensures in
    record { next_room = omega arith; changed_room = omega arith; last_room = omega arith; uses_room = search rules }

pub returns : goal.returns
returns c = search (rules, narrowed_answered)
