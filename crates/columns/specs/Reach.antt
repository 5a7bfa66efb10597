-- Rows and columns whose cells are all there, so that reading them needs no test.
use Rattle.std.specs.Prelude.{ℕ, zero, suc, ◌+◌, ◌*◌, ◌≤◌, ◌<◌, ◌≡◌, List, [], ◌∷◌, length, get_or, take, drop}
use Rattle.std.proofs.Common.{suc-mul, zero-mul, mul-le-mul_right, arith, refl, ap, ◌∙◌, get_or-take, length-take, length-drop, drop-drop, get_or-drop, take-append-drop}
use mathlib.Core.List.Memᴰ
use Rattle.counting.specs.Terms.{Each}
use Rattle.counting.proofs.Laws.Members.{each-head, each_tail, each-cons, each_nil, get_or_in}
use Rattle.orm.specs.Population.{rows_of}
use Rattle.columns.specs.declared.column.Column.{Column}
use Rattle.columns.specs.declared.Rows.{Rows}
use Rattle.columns.specs.Reached.{Reached}
use Rattle.columns.specs.Keyed.{Keyed}
use Rattle.columns.specs.Values.{spaced, values_in, key_of}
use Rattle.counting.specs.Lists.{combination}
use Rattle.columns.specs.Differ.{Wide, rows_held}

-- The row of `width` cells at `at` is there as far as the columns `js` reach
pub record Held (s : List ℕ) (width : ℕ) (js : List ℕ) (at : ℕ) : Type 0 where
  pub each : Each (λ (j : ℕ). (j < width) × (at + j < length s)) js

-- Each is a column of rows of `width` cells
pub record Columns (width : ℕ) (js : List ℕ) : Type 0 where
  pub each : Each (λ (j : ℕ). j < width) js

-- ---- one cell of a row

module _ (s js : List ℕ) (width at i : ℕ) {k : ℕ} (h : Held s width js at) (l : i < length js) (e : k ≡ get_or js i 0) where
  pub held-narrow : k < width
  held-narrow = rw e (h.each _ (get_or_in js i 0 l)).0

  pub held-inside : at + k < length s
  held-inside = rw e (h.each _ (get_or_in js i 0 l)).1

-- ---- the row with a number

module _ (r : Rows) (js : List ℕ) (k : Keyed r js) (x : ℕ) (h : x < r.count) where
  rows_before : suc x * r.width ≤ r.count * r.width
  rows_before = mul-le-mul_right r.width h

  pub row-held : (at : ℕ) → at ≡ r.start + x * r.width → Held r.cells.now r.width js at
  row-held at e = record { each = λ j m. ((k.each j m).0, omega (arith, (k.each j m).1, rows_before, suc-mul x r.width)) }

  pub row-cell : (i : ℕ) {j : ℕ} (row : List ℕ) → i < length js → j ≡ get_or js i 0 → row ≡ drop (x * r.width) (drop r.start r.cells.now) → j < length row
  row-cell i {j} row l e q =
      let m = k.each _ (get_or_in js i 0 l) in
      rw (q, e) (omega (arith, m.1, rows_before, suc-mul x r.width, length-drop (x * r.width) (drop r.start r.cells.now), length-drop r.start r.cells.now))

-- its key, also by what stands behind it
combination-front : (w : ℕ) (js row : List ℕ) → Each (λ (j : ℕ). j < w) js → combination js (take w row) ≡ combination js row
unfolding combination
combination-front w [] row e = refl
combination-front w (j ∷ js) row e = cc (get_or-take w row j 0 (each-head _ e), combination-front w js row (each_tail _ e))

pub key-row : (r : Rows) (js : List ℕ) (x : ℕ) → Keyed r js → key_of r js x ≡ combination js (drop (x * r.width) (drop r.start r.cells.now))
unfolding key_of
key-row r js x k = combination-front r.width js (drop (x * r.width) (drop r.start r.cells.now)) (λ j m. (k.each j m).0)

pub keyed-start : (r : Rows) (js : List ℕ) → Keyed r js → r.start ≤ length r.cells.now + 4096
keyed-start r js k = omega (arith, k.room, k.narrow)

-- as far as the first n of the columns
pub front-keyed : (r : Rows) (js : List ℕ) → Keyed r js → (n : ℕ) → Keyed r (take n js)
front-keyed r js k n = record { narrow = k.narrow; room = k.room; each = λ j m. k.each j (rw take-append-drop at (Memᴰ.append_left (drop n js) m)) }

-- ---- the value with a number

pub spaced-at : (n w i : ℕ) (l : List ℕ) → i < n → get_or (spaced n w l) i 0 ≡ get_or (drop (i * w) l) 0 0
unfolding spaced
spaced-at zero w i l h = absurd (omega arith)
spaced-at (suc n) w zero l h = rw zero-mul
spaced-at (suc n) w (suc i) l h =
    let e : w + i * w ≡ suc i * w = omega (arith, suc-mul i w) in
    spaced-at n w i (drop w l) (omega arith) ∙ rw (drop-drop (i * w) w l, e)

-- its place is among the cells
pub value-reached : {s : List ℕ} {start step count : ℕ} → Reached s start step count → (x : ℕ) → x < count → start + x * step < length s
value-reached {s} {start} {step} {count} r x h =
    let z : suc x * step ≤ count * step = mul-le-mul_right step h in
    omega (arith, r.reach, suc-mul x step)

-- it stands there
pub value_is : (c : Column) (x : ℕ) → x < c.count → get_or (values_in c) x 0 ≡ get_or c.cells.now (c.start + x * c.step) 0
value_is c x h =
    let e : c.start + x * c.step + 0 ≡ c.start + x * c.step = omega arith in
    spaced-at c.count c.step x (drop c.start c.cells.now) h
    ∙ rw (drop-drop (x * c.step) c.start c.cells.now) (get_or-drop (c.start + x * c.step) c.cells.now 0 0 ∙ ap (λ (k : ℕ). get_or c.cells.now k 0) e)

-- ---- rows with a cell for each column

pub wide_room : (k w : ℕ) (l : List ℕ) → Each (λ (row : List ℕ). length row ≡ w) (rows_of k w l) → k * w ≤ length l
unfolding rows_of
wide_room zero w l e = omega arith
wide_room (suc k) w l e =
    let here : length (take w l) ≡ w = each-head _ e in
    omega (arith, here, length-take w l, length-drop w l, wide_room k w (drop w l) (each_tail _ e), suc-mul k w)

pub rows-keyed : (r : Rows) (js : List ℕ) → r.width ≤ 6 → r.start ≤ length r.cells.now → Wide r.width (rows_held r) → Columns r.width js → Keyed r js
rows-keyed r js n h w c =
    let cells : r.count * r.width ≤ length (drop r.start r.cells.now) = wide_room r.count r.width (drop r.start r.cells.now) w.each in
    let room : r.start + r.count * r.width ≤ length r.cells.now = omega (arith, length-drop r.start r.cells.now) in
    record { narrow = omega arith; room = omega arith; each = λ j m. (c.each j m, omega (arith, c.each j m)) }

-- ---- a column as rows

pub column-keyed : (c : Column) (r : Rows) → r.cells.now ≡ c.cells.now → r.start ≡ c.start → r.width ≡ c.step → r.count ≡ c.count → Keyed r (0 ∷ [])
column-keyed c r s p q t =
    let e : r.count * r.width ≡ c.count * c.step = rw (q, t) in
    let h : Reached c.cells.now c.start c.step c.count = c.reached in
    record {
      narrow = rw q h.narrow;
      room = rw s (omega (arith, e, h.reach));
      each = each-cons _ (omega (arith, h.apart), rw s (omega (arith, e, h.reach))) (each_nil _);
    }
