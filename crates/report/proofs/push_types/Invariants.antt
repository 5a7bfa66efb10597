-- `report::push_types` meets its contract. The types left come to the whole.
use Rattle.std.proofs.Common.{◌+◌, ◌-◌, ◌*◌, ◌≤◌, drop}
use Rattle.buffer.specs.Written.{Writing}
use Rattle.report.specs.Printed.{type_lines}
use Rattle.report.proofs.push_types.Given as goal

abbrev pub invariant-loop : goal.invariant-loop
invariant-loop l =
    (l.p ≤ 4294967296 * l.counter) × Writing l.initial.out (type_lines l.n l.cells) l.out (type_lines (l.n - l.counter) (drop l.p l.cells))
