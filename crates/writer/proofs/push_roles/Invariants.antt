-- `writer::push_roles` meets its contract. The lines of the roles left come to the whole.
use Rattle.std.proofs.Common.{◌+◌, ◌-◌, ◌*◌, ◌≡◌, drop}
use Rattle.table.specs.Positions.{role_width}
use Rattle.buffer.specs.Written.{Writing}
use Rattle.writer.proofs.Texts.{role_lines}
use Rattle.writer.proofs.push_roles.Given as goal

abbrev pub invariant-loop : goal.invariant-loop
invariant-loop l =
    (l.p ≡ l.q + role_width * l.counter)
    × Writing l.initial.out (role_lines l.kind l.count (drop l.q l.t)) l.out (role_lines l.kind (l.count - l.counter) (drop l.p l.t))
