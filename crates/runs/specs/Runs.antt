-- Runs of rows with equal keys, and lists of row numbers in order.
use Rattle.std.specs.Prelude.{ℕ, ◌-◌, ◌≤◌, ◌≡◌, Bool, true, false, ◌&&◌, List, map, length, take, drop}
use Rattle.counting.specs.Lists.{same}
use Rattle.sorting.specs.Runs.{runs}
use Rattle.columns.specs.declared.Rows.{Rows}
use Rattle.columns.specs.Values.{key_of}
use Rattle.order.specs.Rows.{row_less, row_order}

-- The runs of equal keys of the rows with the numbers `list` pass the test
abbrev pub runs_of : (ℕ → Bool) → Rows → List ℕ → List ℕ → Bool
runs_of ok rows js list = runs same ok (map (key_of rows js) list)

-- The rows at the places from i up to j are the first run of those from i on
pub record Run (rows : Rows) (js list : List ℕ) (i j : ℕ) : Type 0 where
  pub is : (ok : ℕ → Bool) → runs_of ok rows js (drop i list) ≡ ok (j - i) && runs_of ok rows js (drop j list)

-- Where the rows are not compared, `list` starts with the numbers of all, in the order of the columns `by`, which is one of `js` too
pub record Ready (rows : Rows) (js list : List ℕ) (compared : Bool) : Type 0 where
  pub by : List ℕ
  pub order : compared ≡ false → (rows.count ≤ length list) × (take rows.count list ≡ row_order rows by rows.count)
  pub finer : (x y : ℕ) → row_less rows js x y ≡ true → row_less rows by x y ≡ true
