-- `limits::ranges::push_type_uppers` meets its contract. The bounds of the types left come to the whole.
use Prim.Native.Nat.{◌+◌, ◌-◌, ◌*◌, ◌≤◌}
use mathlib.Core.List.{map}
use lib.ListN.{length, drop}
use Rattle.orm.specs.Sets.{upper_of_type}
use Rattle.table.specs.Positions.{types_in, diagram_of}
use Rattle.buffer.specs.Written.{Writing}
use Rattle.limits.proofs.ranges.push_type_uppers.Given as goal

abbrev pub invariant-loop : goal.invariant-loop
invariant-loop l =
    (l.p + 6 * (l.count - l.counter) ≤ length l.t) × Writing l.initial.out (map upper_of_type (diagram_of l.t).types) l.out (map upper_of_type (types_in (l.count - l.counter) (drop l.p l.t)))
