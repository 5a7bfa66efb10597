-- `limits::roles::push_lowers` meets its contract. The bounds of the roles left come to the whole.
use Prim.Native.Nat.{◌+◌, ◌-◌, ◌*◌, ◌≤◌}
use mathlib.Core.List.{map}
use lib.ListN.{length, drop}
use Rattle.orm.specs.Diagram.{Role}
use Rattle.table.specs.Positions.{role_width, roles_in}
use Rattle.buffer.specs.Written.{Writing}
use Rattle.limits.proofs.roles.push_lowers.Given as goal

abbrev pub invariant-loop : goal.invariant-loop
invariant-loop l =
    (l.p + role_width * (l.count - l.counter) ≤ length l.t)
    × Writing l.initial.out (map (λ (x : Role). x.rmin) (roles_in l.count (drop l.q l.t))) l.out (map (λ (x : Role). x.rmin) (roles_in (l.count - l.counter) (drop l.p l.t)))
