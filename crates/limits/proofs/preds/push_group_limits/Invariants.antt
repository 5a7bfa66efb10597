-- The limits of the groups left come to the whole.
use Rattle.std.proofs.Common.{◌+◌, ◌*◌, ◌≤◌, length, get_or, drop}
use Rattle.orm.specs.Sets.{limits_of_group}
use Rattle.orm.specs.Form.{group_of}
use Rattle.table.specs.Cursors.{placed_at}
use Rattle.limits.specs.Encoded.{Encoding}
use Rattle.limits.proofs.Walked.{items, left}
use Rattle.limits.proofs.preds.push_group_limits.Given as goal

abbrev pub invariant-loop-i : goal.invariant-loop-i
invariant-loop-i l =
    (l.q + 2 * get_or (drop l.x.at l.t) 3 0 ≤ length l.t)
    × Encoding l.initial.out (items (limits_of_group (placed_at l.t l.x)) 1 (placed_at l.t l.x).predicate.groups) l.out
    (left group_of 2 (limits_of_group (placed_at l.t l.x)) l.t l.q (get_or (drop l.x.at l.t) 3 0) 1 l.i)
