-- Rows whose cells are there as far as some columns reach.
use Rattle.std.specs.Prelude.{ℕ, ◌+◌, ◌*◌, ◌≤◌, ◌<◌, List, length}
use Rattle.counting.specs.Terms.{Each}
use Rattle.columns.specs.declared.Rows.{Rows}

-- Where the rows end
abbrev pub end_of_rows : Rows → ℕ
end_of_rows r = r.start + r.count * r.width

-- Every row is there as far as the columns `js` reach
pub record Keyed (r : Rows) (js : List ℕ) : Type 0 where
  pub narrow : r.width ≤ 4096
  pub room : end_of_rows r ≤ length r.cells.now + r.width
  pub each : Each (λ (j : ℕ). (j < r.width) × (end_of_rows r + j < length r.cells.now + r.width)) js
