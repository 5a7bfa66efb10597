-- The laws of a cell and of the next place, and of a walk down a column or down rows: what is left is what stands here and what is left from
-- the next place on.
use Prim.Native.Nat.{ℕ, suc, ◌+◌, ◌-◌, ◌≤◌, ◌<◌}
use Rattle.std.proofs.Common.{add-zero, sym, ◌∙◌, length-drop, drop_of_length-le, drop-drop, get_or-drop, get_or-take}
use native.Mathlib.Omega.{arith}
use Rattle.std.specs.Prelude.{◌≡◌, List, [], ◌∷◌, length, get_or, take, drop}
use Rattle.std.proofs.Math.Path.{ap}
use Rattle.std.proofs.Math.ListN.{get_or-eq_default}
use Rattle.std.proofs.Math.Seq.{drop-length}
use Rattle.counting.specs.Lists.{combination}
use Rattle.orm.specs.Population.{rows_of}
use Rattle.columns.specs.Values.{spaced, keys_of}

-- ---- one cell, which reads as 0 past the end

module _ (s : List ℕ) (at j : ℕ) where
  pub cell_here : get_or s (at + j) 0 ≡ get_or (drop at s) j 0
  cell_here = sym (get_or-drop at s j 0)

  pub cell_behind : length s - at ≤ j → 0 ≡ get_or (drop at s) j 0
  cell_behind h = let k : length (drop at s) ≤ j = simp length-drop (omega arith) in sym (get_or-eq_default (drop at s) 0 k)

  pub cell_past : length s ≤ at → 0 ≡ get_or (drop at s) j 0
  cell_past h = cell_behind (omega arith)

pub value-here : (s : List ℕ) (at : ℕ) → get_or s at 0 ≡ get_or (drop at s) 0 0
value-here s at = ap (λ (m : ℕ). get_or s m 0) (sym (add-zero at)) ∙ cell_here s at 0

-- ---- the next place

module _ (s : List ℕ) (at step : ℕ) where
  pub next-behind : length s - at ≤ step → drop (length s) s ≡ drop step (drop at s)
  next-behind h =
      let k : length (drop at s) ≤ step = simp length-drop (omega arith) in
      drop-length s ∙ sym (drop_of_length-le (drop at s) k)

  pub next_past : length s ≤ at → drop (length s) s ≡ drop step (drop at s)
  next_past h = next-behind (omega arith)

  pub next_here : drop (at + step) s ≡ drop step (drop at s)
  next_here = sym (drop-drop step at s)

-- ---- a cell of a row

module _ (s : List ℕ) (at width j : ℕ) where
  pub row_cell_here : {v : ℕ} → j < width → v ≡ get_or (drop at s) j 0 → v ≡ get_or (take width (drop at s)) j 0
  row_cell_here h e = e ∙ sym (get_or-take width (drop at s) j 0 h)

-- ---- a column

module _ (step n : ℕ) (s : List ℕ) where
  pub spaced-more : 0 < n → spaced n step s ≡ get_or s 0 0 ∷ spaced (n - 1) step (drop step s)
  unfolding spaced
  spaced-more h = let k : n ≡ suc (n - 1) = omega arith in ap (λ (m : ℕ). spaced m step s) k

  pub spaced-none : n ≤ 0 → spaced n step s ≡ []
  unfolding spaced
  spaced-none h = let k : n ≡ 0 = omega arith in rw k

-- ---- rows

module _ (width : ℕ) (js : List ℕ) (n : ℕ) (s : List ℕ) where
  pub keys_more : 0 < n → keys_of n width js s ≡ combination js (take width s) ∷ keys_of (n - 1) width js (drop width s)
  unfolding keys_of rows_of
  keys_more h = let k : n ≡ suc (n - 1) = omega arith in ap (λ (m : ℕ). keys_of m width js s) k

  pub keys_none : n ≤ 0 → keys_of n width js s ≡ []
  unfolding keys_of rows_of
  keys_none h = let k : n ≡ 0 = omega arith in rw k
