-- `limits::roles::push_uppers` meets its contract. The bounds of the roles left come to the whole.
use Prim.Native.Nat.{◌+◌, ◌-◌, ◌*◌, ◌≤◌}
use mathlib.Core.List.{map}
use lib.ListN.{length, drop}
use Rattle.orm.specs.Sets.{upper_of_role}
use Rattle.table.specs.Positions.{role_width, roles_in}
use Rattle.buffer.specs.Written.{Writing}
use Rattle.limits.proofs.roles.push_uppers.Given as goal

abbrev pub invariant-loop : goal.invariant-loop
invariant-loop l =
    (l.p + role_width * (l.count - l.counter) ≤ length l.t)
    × Writing l.initial.out (map upper_of_role (roles_in l.count (drop l.q l.t))) l.out (map upper_of_role (roles_in (l.count - l.counter) (drop l.p l.t)))
