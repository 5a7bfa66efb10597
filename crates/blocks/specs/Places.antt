-- The laws of places in cells: what the columns and rows there hold.
use Rattle.std.specs.Prelude.{ℕ, zero, suc, ◌+◌, ◌*◌, ◌-◌, ◌≤◌, ◌<◌, min, ◌≡◌, refl, List, [], ◌∷◌, length, get_or, take, drop}
use Rattle.std.proofs.Common.{add_comm, add-zero, mul-le-mul, mul-one, arith, sym, ap, ◌∙◌, length-drop, length-take, drop-drop, get_or-take, get_or-drop}
use Rattle.counting.specs.Lists.{column}
use Rattle.orm.specs.Population.{rows_of}
use Rattle.table.specs.Positions.{pred_of}
use Rattle.table.specs.Laws.Walks.{role-count}
use Rattle.columns.specs.declared.Rows.{Rows}
use Rattle.columns.specs.Reached.{Reached}
use Rattle.columns.specs.Values.{spaced}
use Rattle.blocks.specs.Blocks.{members_at, rows_at, pred_width, most_cells}

-- ---- the end of a block

pub end_is : (at w m : ℕ) {i : ℕ} → i ≡ m → at + 1 + i * w ≡ at + suc (m * w)
end_is at w m f = rw f (omega arith)

module _ {i w : ℕ} (h : i < 4294967296) (g : w ≤ 999999) where
  size_small : i * w ≤ 4294967295 * 999999
  size_small = let l : i ≤ 4294967295 = omega arith in mul-le-mul l g

  pub size_fits : i * w < 18446744073709551616
  size_fits = omega (arith, size_small)

  pub end-near : (at : ℕ) → at + 1 + i * w ≤ at + most_cells
  end-near at = omega (arith, size_small)

  pub end_fits : (at : ℕ) → at ≤ 64 * most_cells → at + 1 + i * w < 18446744073709551616
  end_fits at l = omega (arith, size_small)

-- ---- members

spaced-take : (k : ℕ) (l : List ℕ) → spaced (min k (length l)) 1 l ≡ take k l
unfolding spaced
spaced-take zero l = let e : min 0 (length l) ≡ 0 = omega arith in rw e
spaced-take (suc k) [] = let e : min (suc k) 0 ≡ 0 = omega arith in rw e
spaced-take (suc k) (x ∷ l) = let e : min (suc k) (suc (length l)) ≡ suc (min k (length l)) = omega arith in rw (e, spaced-take k l)

-- `start` and `end` are where the members start and end, and `i` the size cell
module _ (s : List ℕ) (at start : ℕ) {i end : ℕ} (l : start ≤ length s) (h : drop start s ≡ drop 1 (drop at s))
    (f : i ≡ get_or (drop at s) 0 0) (g : end ≡ min (start + i) (length s)) where
  size_is : end - start ≡ min (get_or (drop at s) 0 0) (length (drop 1 (drop at s)))
  size_is = omega (arith, length-drop start s, ap length h)

  pub members-are : spaced (end - start) 1 (drop start s) ≡ members_at (drop at s)
  members-are = rw (size_is, h) (spaced-take (get_or (drop at s) 0 0) (drop 1 (drop at s)))

  pub members-count : end - start ≡ length (members_at (drop at s))
  members-count = size_is ∙ sym (length-take (get_or (drop at s) 0 0) (drop 1 (drop at s)))

pub members-reached : (s : List ℕ) (start end : ℕ) → start ≤ length s → end ≤ length s → Reached s start 1 (end - start)
members-reached s start end h g = record { apart = omega arith; narrow = omega arith; reach = omega (arith, mul-one (end - start)) }

-- ---- rows and their columns

-- The rows of a predicate with so many roles whose block starts at `at`
pub record RowsHere (s : List ℕ) (at width : ℕ) (r : Rows) : Type 0 where
  pub cells : r.cells.now ≡ s
  pub start : drop r.start s ≡ drop 1 (drop at s)
  pub wide : r.width ≡ width
  pub count : r.count ≡ get_or (drop at s) 0 0
  pub inside : r.start ≤ length s

-- A column of those rows, of `n` cells, `gap` apart from `first` on: where it starts at most
pub record ColumnHere (s : List ℕ) (at width first gap n : ℕ) : Type 0 where
  pub step : gap ≡ width
  pub apart : 0 < width
  pub count : n ≡ get_or (drop at s) 0 0
  pub inside : first ≤ length s
  pub near : first < at + 1 + width

pub column-here : (s : List ℕ) (at width j first start : ℕ) {i : ℕ} → j < width → first ≤ at + 1 → start ≤ length s → start ≤ first + j
    → i ≡ get_or (drop at s) 0 0 → ColumnHere s at width start width i
column-here s at width j first start h p l q e = record { step = refl; apart = omega arith; count = e; inside = l; near = omega arith }

column-spaced : (k w j : ℕ) (l : List ℕ) → j < w → spaced k w (drop j l) ≡ column j (rows_of k w l)
unfolding spaced column rows_of
column-spaced zero w j l h = refl
column-spaced (suc k) w j l h =
    rw (get_or-drop j l 0 0, add-zero, get_or-take w l j 0 h, drop-drop w j l, add_comm j w, ← drop-drop j w l, column-spaced k w j (drop w l) h)

pub column-is : (s : List ℕ) (at width j first start : ℕ) {i : ℕ} → j < width → drop first s ≡ drop 1 (drop at s)
    → drop start s ≡ drop j (drop first s) → i ≡ get_or (drop at s) 0 0
    → spaced i width (drop start s) ≡ column j (rows_at width (drop at s))
column-is s at width j first start h p q e = rw (q, p, e) (column-spaced (get_or (drop at s) 0 0) width j (drop 1 (drop at s)) h)

-- ---- the roles of the predicate at `pred` in the table

pub width_is : (t : List ℕ) (pred : ℕ) {v w : ℕ} → v ≡ get_or (drop pred t) 2 0 → w ≡ v → w ≡ pred_width (pred_of (drop pred t))
width_is t pred e f = f ∙ e ∙ sym (role-count (drop pred t))
