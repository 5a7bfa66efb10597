-- The population in some cells, and a predicate with its rows, by positions.
use Rattle.std.specs.Prelude.{ℕ, List, drop}
use Rattle.orm.specs.Diagram.{Predicate}
use Rattle.orm.specs.Population.{Population}
use Rattle.table.specs.Positions.{pred_of, diagram_of}
use Rattle.blocks.specs.Blocks.{pred_width, rows_at, population_at}

-- The population in these cells, of the diagram in this table
abbrev pub population_of : List ℕ → List ℕ → Population
population_of t s = population_at (diagram_of t) s

-- The predicate at `pred` of the table, and its rows, whose block is at `at` of the cells
abbrev pub pred_at : List ℕ → ℕ → Predicate
pred_at t pred = pred_of (drop pred t)

abbrev pub rows_here : List ℕ → List ℕ → ℕ → ℕ → List (List ℕ)
rows_here t s pred at = rows_at (pred_width (pred_at t pred)) (drop at s)
