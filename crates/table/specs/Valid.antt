-- Valid tables, and numbers under a bound.
use Rattle.std.specs.Prelude.{ℕ, ◌≤◌, ◌≡◌, List, get_or}
use Rattle.orm.specs.WellFormed.{WellFormed}
use Rattle.reading.specs.WideTable.{wide_table}
use Rattle.table.specs.Positions.{diagram_of}

-- The table, with role lines of one width, of a well-formed diagram: of that which stands there by positions
pub record Valid (t : List ℕ) : Type 0 where
  pub is : t ≡ wide_table (diagram_of t)
  pub formed : WellFormed (diagram_of t)

-- No number is above `b`
pub record Under (b : ℕ) (xs : List ℕ) : Type 0 where
  pub at : (k : ℕ) → get_or xs k 0 ≤ b
