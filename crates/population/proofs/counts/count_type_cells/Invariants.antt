use Rattle.std.proofs.Common.{length, ◌*◌, ◌≤◌, ◌≡◌}
use Rattle.table.specs.Positions.{diagram_of}
use Rattle.population.proofs.TypeLaws.{type_cells}
use Rattle.population.proofs.counts.count_type_cells.Given as goal

abbrev pub invariant-loop-a : goal.invariant-loop-a
invariant-loop-a l = record { value : l.n ≡ length (type_cells (diagram_of l.t) l.c l.a); small : l.n ≤ 4097 * l.a }
