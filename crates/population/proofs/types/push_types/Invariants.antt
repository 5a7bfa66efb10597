use Rattle.buffer.specs.Written.{Wrote}
use Rattle.table.specs.Positions.{diagram_of}
use Rattle.population.proofs.TypeLaws.{type_cells}
use Rattle.population.proofs.types.push_types.Given as goal

abbrev pub invariant-loop-a : goal.invariant-loop-a
invariant-loop-a l = Wrote l.initial.out (type_cells (diagram_of l.t) l.c l.a) l.out
