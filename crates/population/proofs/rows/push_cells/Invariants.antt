use Rattle.std.proofs.Common.{take}
use mathlib.Core.List.{map}
use Rattle.buffer.specs.Written.{Wrote}
use Rattle.population.specs.Plan.{cell_of}
use Rattle.population.proofs.rows.push_cells.Given as goal

abbrev pub invariant-loop-column : goal.invariant-loop-column
invariant-loop-column l = Wrote l.initial.out (map (cell_of l.flat) (take l.column-index l.columns)) l.out
