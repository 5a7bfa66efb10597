use Rattle.std.proofs.Common.{drop, length, ◌≤◌, ◌≡◌}
use Rattle.orm.specs.Sets.{roles_in_group}
use Rattle.table.specs.Positions.{roles_in}
use Rattle.selection.proofs.count_roles.Given as goal

abbrev pub invariant-loop-i : goal.invariant-loop-i
invariant-loop-i l = record { counted : l.n ≡ length (roles_in_group l.number 0 (roles_in l.i (drop l.q l.t))); few : l.n ≤ l.i }
