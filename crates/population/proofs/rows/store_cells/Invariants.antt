use Rattle.std.proofs.Common.{take, length, ◌+◌, ◌≡◌}
use mathlib.Core.List.{map}
use Rattle.buffer.specs.Written.{Wrote}
use Rattle.population.specs.Plan.{cell_of}
use Rattle.population.proofs.rows.store_cells.Given as goal

abbrev pub invariant-loop-column : goal.invariant-loop-column
invariant-loop-column l = record {
  wrote : Wrote l.initial.out (map (cell_of l.flat) (take l.column-index l.columns)) l.out;
  at : l.out.at ≡ l.initial.out.at + l.column-index;
  long : length l.out.buffer.now ≡ length l.initial.out.buffer.now;
}
