-- The limits of the roles left come to the whole.
use Rattle.std.proofs.Common.{◌+◌, ◌*◌, ◌≤◌, length, get_or, drop}
use Rattle.orm.specs.Sets.{limits_of_role}
use Rattle.table.specs.Positions.{role_width, wide_role}
use Rattle.table.specs.Cursors.{placed_at}
use Rattle.limits.specs.Encoded.{Encoding}
use Rattle.limits.proofs.Walked.{items, left}
use Rattle.limits.proofs.preds.push_role_limits.Given as goal

abbrev pub invariant-loop-i : goal.invariant-loop-i
invariant-loop-i l =
    (l.q + role_width * get_or (drop l.x.at l.t) 2 0 ≤ length l.t)
    × Encoding l.initial.out (items (limits_of_role (placed_at l.t l.x)) l.x.roles (placed_at l.t l.x).predicate.roles) l.out
    (left wide_role role_width (limits_of_role (placed_at l.t l.x)) l.t l.q (get_or (drop l.x.at l.t) 2 0) l.x.roles l.i)
