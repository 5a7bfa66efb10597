-- The rows of a predicate, and its groups: their columns, their limits, and K9 of them.
use Rattle.std.specs.Prelude.{ℕ, ◌+◌, ◌≤◌, ◌≡◌, Bool, List, ◌++◌, map, length, drop}
use Rattle.counting.specs.Lists.{combination, up_from, map_from}
use Rattle.counting.specs.Distinct.{all}
use Rattle.orm.specs.Diagram.{Frequency, Predicate}
use Rattle.orm.specs.Form.{group_of}
use Rattle.orm.specs.Sets.{roles_in_group}
use Rattle.orm.specs.Constraints.{Grouped}
use Rattle.faults.specs.Faults.{lowered}
use Rattle.faults.specs.Passes.{pred_faults}
use Rattle.table.specs.Positions.{pred_length, diagram_of}
use Rattle.columns.specs.declared.Rows.{Rows}
use Rattle.columns.specs.Values.{occurring}
use Rattle.columns.specs.Differ.{Wide, rows_held}
use Rattle.blocks.specs.Blocks.{pred_width}
use Rattle.playing.specs.Places.{population_of, pred_at}
use Rattle.rows.specs.declared.Group.{Group}

-- The predicate at `pred` is in the table and has few roles, and the rows have a cell for each, which is there
pub record PredRows (t : List ℕ) (pred : ℕ) (rows : Rows) : Type 0 where
  pub inside : pred + pred_length (drop pred t) ≤ length t
  pub few : pred_width (pred_at t pred) ≤ 6
  pub width : rows.width ≡ pred_width (pred_at t pred)
  pub start : rows.start ≤ length rows.cells.now
  pub wide : Wide rows.width (rows_held rows)

-- `js` are the columns of the predicate's group with the number `g`, which has these limits, and then all its columns
pub record GroupHere (p : Predicate) (g : ℕ) (f : Frequency) (js : List ℕ) (x : Group) : Type 0 where
  pub columns : js ≡ roles_in_group g 0 p.roles ++ up_from 0 (pred_width p)
  pub own : x.own ≡ length (roles_in_group g 0 p.roles)
  pub fits : x.own ≤ length js
  pub all : x.all ≡ length js
  pub few : x.all ≤ 12
  pub low : x.low ≡ f.fmin
  pub high : x.high ≡ f.fmax

-- The predicate's group with the number `g`, and its combinations in these rows
abbrev pub group_in : Predicate → List (List ℕ) → ℕ → Frequency → Grouped
group_in p rows g f = record { frequency = f; combinations = map (combination (roles_in_group g 0 p.roles)) rows }

-- K9 of one group; of that of the predicate at `pred` with the number `g` and its line at `line`
unfoldable pub group_test : Grouped → Bool
group_test x = occurring x.frequency.fmin x.frequency.fmax x.combinations x.combinations

abbrev pub group_kept : List ℕ → Rows → ℕ → ℕ → ℕ → Bool
group_kept t rows pred g line = group_test (group_in (pred_at t pred) (rows_held rows) g (group_of (drop line t)))

-- K9 of some groups, the first of them with the number `g`
unfoldable pub groups_test : Predicate → List (List ℕ) → ℕ → List Frequency → Bool
groups_test p rows g fs = all group_test (map_from (group_in p rows) g fs)

-- Of the lowest numbers, `e` become `e'` by the faults of the predicate at `pred`, which has the number `own`
pub record Noted (t s : List ℕ) (rows : Rows) (pred own : ℕ) (e e' : List ℕ) : Type 0 where
  pub is : e' ≡ lowered (pred_faults (diagram_of t) (population_of t s) own (pred_at t pred) (rows_held rows)) e
