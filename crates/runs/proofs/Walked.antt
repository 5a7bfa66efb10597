-- What sorting comes to, the walk down a list of rows in order, run by run, and limits that no rows can break.
use Prim.Native.Nat.{ℕ, zero, suc, ◌+◌, ◌*◌, ◌-◌, ◌≤◌, ◌<◌}
use native.Mathlib.Nat.{suc-mul, zero-mul}
use native.Mathlib.Numerals.{add-one}
use native.Mathlib.Omega.{arith}
use mathlib.Core.Path.{◌≡◌, refl, sym, ap, ◌∙◌}
use mathlib.Core.Bool.{Bool, true, false, not, and-true, false≢true}
use mathlib.Core.List.{List, [], ◌∷◌, ◌++◌, map}
use lib.ListN.{length, get_or, take, drop, drop_of_length-le, length-map, length-append}
use lib.Seq.{drop-cons, drop-drop, length-take-le, take_at}
use borrow.Author.Tests.{not-true, not-false}
use Rattle.counting.specs.Lists.{same, combination, up_from}
use Rattle.counting.specs.Distinct.{occurrences}
use Rattle.counting.proofs.Laws.Distinct.{all_decides}
use Rattle.counting.proofs.Laws.Instances.{same_decides}
use Rattle.counting.proofs.Laws.Range.{in_below-iff}
use Rattle.sorting.proofs.Sorted.{each-sorted}
use Rattle.sorting.proofs.Lexical.{before_strict, before-front}
use Rattle.sorting.specs.Runs.{runs_from, runs, each_occurs}
use Rattle.sorting.proofs.Runs.{runs-sorted}
use Rattle.orm.specs.Form.{◌to◌, in_range}
use Rattle.orm.specs.Population.{rows_of}
use Rattle.orm.proofs.Laws.Decided.{in_range_decides}
use Rattle.orm.proofs.Laws.Cells.{rows_of-length}
use Rattle.columns.specs.declared.Rows.{Rows}
use Rattle.columns.specs.Values.{key_of, keys_of, keys_in, occurring}
use Rattle.columns.specs.Single.{occurs}
use Rattle.order.specs.Rows.{row_less, row_order, row-weak}
use Rattle.order.specs.Numbers.{Numbers}
use Rattle.runs.specs.Runs.{runs_of, Run, Ready}

-- ---- one run, and all

module _ (rows : Rows) (js list : List ℕ) where
  -- the run from place i on, of rows like that with the number `first`, goes as far as place j at least
  pub record Going (first i j : ℕ) : Type 0 where
    pub all : (ok : ℕ → Bool) → runs_from same ok (key_of rows js first) (j - i) (map (key_of rows js) (drop j list)) ≡ runs_of ok rows js (drop i list)

  pub run-start : (i : ℕ) → i < length list → Going (get_or list i 0) i (i + 1)
  unfolding runs
  run-start i h = let one : i + 1 - i ≡ 1 = omega arith in record { all = λ ok. rw (one, add-one, drop-cons list i 0 h) }

  module _ {first i j : ℕ} (g : Going first i j) where
    pub run-last : length list ≤ j → j ≤ length list → Run rows js list i (length list)
    unfolding runs_from runs
    run-last h l =
        let e : length list ≡ j = omega arith in
        rw e (record { is = λ ok. rw (drop_of_length-le list h, and-true) (sym (rw (drop_of_length-le list h) at (g.all ok))) })

    module _ {b : Bool} (h : j < length list) (like : b ≡ same (key_of rows js first) (key_of rows js (get_or list j 0))) where
      pub run_on : i < j → not b ≡ false → Going first i (j + 1)
      unfolding runs_from
      run_on l n =
          let more : j + 1 - i ≡ suc (j - i) = omega arith in
          record { all = λ ok. rw (more, add-one) (rw (drop-cons list j 0 h, runs_from, ← like, not-false b n) at (g.all ok)) }

      pub run_ends : not b ≡ true → Run rows js list i j
      unfolding runs_from runs
      run_ends n = record { is = λ ok. rw (drop-cons list j 0 h) (sym (rw (drop-cons list j 0 h, runs_from, ← like, not-true b n) at (g.all ok))) }

-- ---- sorting

module _ (rows : Rows) (js list : List ℕ) where
  pub ready_not : Ready rows js list true
  ready_not = record { by = js; order = λ e. absurd (false≢true (sym e)); finer = λ x y q. q }

  pub ready_sorted : (front : List ℕ) → rows.count ≤ length list → front ≡ row_order rows js (length (take rows.count list))
      → length front ≡ length (take rows.count list) → Ready rows js (front ++ drop rows.count list) false
  ready_sorted front h e l =
      let n : length (take rows.count list) ≡ rows.count = length-take-le rows.count list h in
      record {
        by = js;
        order = λ _. (
          omega (arith, length-append front (drop rows.count list)),
          take_at front (drop rows.count list) rows.count (l ∙ n) ∙ e ∙ ap (row_order rows js) n,
        );
        finer = λ x y q. q;
      }

  module _ {compared : Bool} (o : Ready rows js list compared) (h : compared ≡ false) where
    pub ready_part : rows.count ≡ length (take rows.count list)
    ready_part = sym (length-take-le rows.count list (o.order h).0)

    pub ready_numbers : Numbers rows (take rows.count list)
    ready_numbers = record {
      below = rw (o.order h).1
          (each-sorted (λ (x : ℕ). x < rows.count) (row_less rows o.by) (up_from 0 rows.count) (λ x. (in_below-iff rows.count x).0));
    }

front-is : (rows : Rows) (n : ℕ) (js : List ℕ) (x : ℕ) → key_of rows (take n js) x ≡ take n (key_of rows js x)
unfolding key_of combination
front-is rows zero js x = refl
front-is rows (suc n) [] x = refl
front-is rows (suc n) (j ∷ js) x = cc (front-is rows n js x)

-- An order by some columns is one by the first of them too
pub ready_front : (rows : Rows) (js list : List ℕ) (n : ℕ) {compared : Bool} → Ready rows js list compared
    → Ready rows (take n js) list compared
unfolding row_less
ready_front rows js list n o = record {
  by = o.by;
  order = o.order;
  finer = λ x y q. o.finer x y (before-front n _ _ (rw (front-is rows n js x, front-is rows n js y) at q));
}

-- ---- the runs of all rows, in order

module _ (low high : ℕ) (rows : Rows) (js list : List ℕ) where
  -- those from place i on tell how often what the rows hold occurs
  pub record Left (i : ℕ) : Type 0 where
    pub rest : runs_of (in_range (low to high)) rows js (drop i list) ≡ occurring low high (keys_in rows js) (keys_in rows js)

  module _ {i : ℕ} (w : Left i) where
    pub left_end : length list ≤ i → true ≡ occurring low high (keys_in rows js) (keys_in rows js)
    unfolding runs
    left_end h = rw (drop_of_length-le list h) at w.rest

    module _ {j : ℕ} {b : Bool} (r : Run rows js list i j) (e : b ≡ in_range (low to high) (j - i)) where
      pub left-broken : not b ≡ true → false ≡ occurring low high (keys_in rows js) (keys_in rows js)
      left-broken n = rw (r.is (in_range (low to high)), ← e, not-true b n) at w.rest

      pub left-more : not b ≡ false → Left j
      left-more n = record { rest = rw (r.is (in_range (low to high)), ← e, not-false b n) at w.rest }

keys_numbered : (k n w : ℕ) (js l : List ℕ) → map (λ (x : ℕ). combination js (take w (drop (x * w) l))) (up_from k n) ≡ keys_of n w js (drop (k * w) l)
unfolding up_from keys_of rows_of
keys_numbered k zero w js l = refl
keys_numbered k (suc n) w js l =
    ap (combination js (take w (drop (k * w) l)) ∷◌) (keys_numbered (suc k) n w js l ∙ ap (keys_of n w js) (rw suc-mul (sym (drop-drop w (k * w) l))))

pub left-start : (low high : ℕ) (rows : Rows) (js list : List ℕ) {compared : Bool} → Ready rows js list compared → compared ≡ false
    → Left low high rows js (take rows.count list) 0
unfolding occurring each_occurs row_less key_of
left-start low high rows js list o h = record {
  rest = ap (runs_of (in_range (low to high)) rows js) (o.order h).1
      ∙ runs-sorted same_decides before_strict (in_range (low to high)) (key_of rows js) (row-weak rows o.by) o.finer (up_from 0 rows.count)
      ∙ ap (λ (l : List (List ℕ)). occurring low high l l) (keys_numbered 0 rows.count rows.width js (drop rows.start rows.cells.now) ∙ rw zero-mul);
}

-- ---- limits that the rows can't break

occurs-most : (v : List ℕ) (ks : List (List ℕ)) → occurrences same v ks ≤ length ks
unfolding occurrences
occurs-most v [] = omega arith
occurs-most v (k ∷ ks) =
    let h : occurrences same v ks ≤ length ks = occurs-most v ks in
    elim (same v k) as (λ b. elim b as (λ _. ℕ) [ true ↦ suc (occurrences same v ks) | false ↦ occurrences same v ks ] ≤ suc (length ks)) [
      | true ↦ omega arith
      | false ↦ omega arith
    ]

pub loose : (rows : Rows) (js : List ℕ) {low high : ℕ} → low ≡ 1 → rows.count ≤ high
    → true ≡ occurring low high (keys_in rows js) (keys_in rows js)
unfolding occurring keys_of
loose rows js {low} {high} one few =
    let n : length (keys_in rows js) ≡ rows.count = simp (length-map, rows_of-length) in
    sym ((all_decides _ (λ v. in_range_decides low (occurrences same v (keys_in rows js)) high) (keys_in rows js)).1
    (λ v m. (omega (arith, occurs same_decides m), omega (arith, occurs-most v (keys_in rows js)))))
