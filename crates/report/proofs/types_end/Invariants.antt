-- `report::types_end` meets its contract. The types left end where all end.
use Rattle.std.proofs.Common.{◌-◌, ◌*◌, ◌≤◌, ◌≡◌}
use Rattle.report.specs.Printed.{types_end}
use Rattle.report.proofs.types_end.Given as goal

abbrev pub invariant-loop : goal.invariant-loop
invariant-loop l = (l.p ≤ 4294967296 * l.counter) × (types_end (l.n - l.counter) l.p l.cells ≡ types_end l.n 0 l.cells)
