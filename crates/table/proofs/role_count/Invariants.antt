-- `table::role_count` meets its contract. The roles counted and those of the predicates left come to all roles.
use Rattle.std.proofs.Common.{◌-◌}
use Rattle.table.specs.Laws.Walks.{RolesLeft}
use Rattle.table.specs.Cursors.{Ahead}
use Rattle.table.proofs.role_count.Given as goal

abbrev pub invariant-loop : goal.invariant-loop
invariant-loop l = Ahead l.t l.at (l.count - l.counter) × RolesLeft l.t l.at (l.count - l.counter) l.n
