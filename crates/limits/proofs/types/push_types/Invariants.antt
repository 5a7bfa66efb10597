-- The limits of the types left come to the whole.
use Rattle.std.proofs.Common.{◌+◌, ◌*◌, ◌≤◌, length}
use Rattle.orm.specs.Sets.{limits_of_type}
use Rattle.orm.specs.Form.{type_of}
use Rattle.table.specs.Positions.{type_count, diagram_of}
use Rattle.limits.specs.Encoded.{Encoding}
use Rattle.limits.proofs.Walked.{items, left}
use Rattle.limits.proofs.types.push_types.Given as goal

abbrev pub invariant-loop-a : goal.invariant-loop-a
invariant-loop-a l =
    (2 + 6 * type_count l.t ≤ length l.t)
    × Encoding l.initial.out (items (limits_of_type (diagram_of l.t)) 0 (diagram_of l.t).types) l.out
    (left type_of 6 (limits_of_type (diagram_of l.t)) l.t 2 (type_count l.t) 0 l.a)
