-- `limits::ranges::push_type_lowers` meets its contract. The bounds of the types left come to the whole.
use Prim.Native.Nat.{◌+◌, ◌-◌, ◌*◌, ◌≤◌}
use mathlib.Core.List.{map}
use lib.ListN.{length, drop}
use Rattle.orm.specs.Diagram.{ObjectType}
use Rattle.table.specs.Positions.{types_in, diagram_of}
use Rattle.buffer.specs.Written.{Writing}
use Rattle.limits.proofs.ranges.push_type_lowers.Given as goal

abbrev pub invariant-loop : goal.invariant-loop
invariant-loop l =
    (l.p + 6 * (l.count - l.counter) ≤ length l.t)
    × Writing l.initial.out (map (λ (x : ObjectType). x.min) (diagram_of l.t).types) l.out
    (map (λ (x : ObjectType). x.min) (types_in (l.count - l.counter) (drop l.p l.t)))
