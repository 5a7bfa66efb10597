-- The loops down columns and rows, and over the columns of a key: what is left comes to the whole.
use Prim.Native.Nat.{ℕ, ◌+◌, ◌*◌, ◌-◌, ◌≤◌, ◌<◌}
use native.Mathlib.Nat.{suc-mul, zero-mul}
use native.Mathlib.Numerals.{add-one}
use native.Mathlib.Omega.{arith}
use mathlib.Core.Path.{◌≡◌}
use mathlib.Core.Bool.{Bool, true, false, not, ◌&&◌}
use mathlib.Core.List.{List, [], ◌∷◌}
use lib.ListN.{length, get_or, drop, drop_of_length-le}
use lib.Seq.{drop-cons, drop-drop}
use Rattle.columns.specs.Keyed.{Keyed}
use Rattle.columns.specs.Reach.{key-row}
use borrow.Author.Tests.{eq-eqb, ne_eqb, not-true, not-false}
use Rattle.counting.specs.Lists.{same, combination}
use Rattle.counting.specs.Totals.{bit}
use Rattle.counting.specs.Distinct.{all, occurrences}
use Rattle.counting.proofs.Laws.Distinct.{occurrences-cons}
use Rattle.orm.specs.Form.{in_range, ◌to◌}
use Rattle.columns.specs.declared.Rows.{Rows}
use Rattle.columns.specs.Values.{key_of, keys_of, keys_in, occurring}
use Rattle.columns.specs.Walks.{keys_more, keys_none}

-- ---- two keys, of the rows x and y: what is left comes to the whole

module _ (r : Rows) (js : List ℕ) where
  module _ (x y : ℕ) (a b : List ℕ) where
    pub record SameFrom (i : ℕ) : Type 0 where
      pub left : same (combination (drop i js) a) (combination (drop i js) b) ≡ same (key_of r js x) (key_of r js y)

    pub same_start : a ≡ drop (x * r.width) (drop r.start r.cells.now) → b ≡ drop (y * r.width) (drop r.start r.cells.now) → Keyed r js → SameFrom 0
    same_start p q k = record { left = rw (key-row r js x k, key-row r js y k, p, q) }

    module _ (i : ℕ) (w : SameFrom i) where
      pub same_end : length js ≤ i → true ≡ same (key_of r js x) (key_of r js y)
      unfolding same combination
      same_end h = rw (drop_of_length-le js h) at w.left

      module _ (h : i < length js) where
        pub keys_not : (get_or a (get_or js i 0) 0 ≡ get_or b (get_or js i 0) 0 → ⊥) → false ≡ same (key_of r js x) (key_of r js y)
        unfolding same combination
        keys_not n = rw (drop-cons js i 0 h, combination, same, ne_eqb (get_or a (get_or js i 0) 0) (get_or b (get_or js i 0) 0) n) at w.left

        pub keys_same : get_or a (get_or js i 0) 0 ≡ get_or b (get_or js i 0) 0 → SameFrom (i + 1)
        unfolding same combination
        keys_same z = record {
          left = rw add-one (rw (drop-cons js i 0 h, combination, same, eq-eqb (get_or a (get_or js i 0) 0) (get_or b (get_or js i 0) 0) z) at w.left);
        }

-- ---- how often a key occurs: those counted and those from row y on come to the whole

-- the keys of the rows from y on
abbrev pub keys_behind : Rows → List ℕ → ℕ → List (List ℕ)
keys_behind r js y = keys_of (r.count - y) r.width js (drop (y * r.width) (drop r.start r.cells.now))

module _ (r : Rows) (js : List ℕ) where
  pub keys_all : keys_behind r js 0 ≡ keys_in r js
  keys_all = let e : r.count - 0 ≡ r.count = omega arith in rw (zero-mul, e)

  module _ (y : ℕ) where
    pub keys_end : r.count ≤ y → keys_behind r js y ≡ []
    keys_end h = keys_none r.width js (r.count - y) _ (omega arith)

    pub keys-here : y < r.count → keys_behind r js y ≡ key_of r js y ∷ keys_behind r js (y + 1)
    unfolding key_of
    keys-here h =
        let some : 0 < r.count - y = omega arith in
        let one : r.count - (y + 1) ≡ r.count - y - 1 = omega arith in
        let next : (y + 1) * r.width ≡ y * r.width + r.width = rw add-one (omega (arith, suc-mul y r.width)) in
        rw (one, next, ← drop-drop r.width (y * r.width) (drop r.start r.cells.now)) (keys_more r.width js (r.count - y) _ some)

  module _ (key : List ℕ) (n y : ℕ) where
    pub record Counted : Type 0 where
      pub few : n ≤ y
      pub left : n + occurrences same key (keys_behind r js y) ≡ occurrences same key (keys_in r js)

    module _ (w : Counted) where
      pub counted_none : r.count ≤ y → n ≡ occurrences same key (keys_in r js)
      unfolding occurrences
      counted_none h = let z = rw (keys_end y h) at w.left in omega arith

  pub counted-start : (key : List ℕ) → Counted key 0 0
  counted-start key = record { few = omega arith; left = rw (keys_all) (omega arith) }

  module _ (key : List ℕ) (n y : ℕ) (w : Counted key n y) {b : Bool} (h : y < r.count) (e : b ≡ same key (key_of r js y)) where
    met : n + (bit b + occurrences same key (keys_behind r js (y + 1))) ≡ occurrences same key (keys_in r js)
    met = rw e (rw (keys-here y h, occurrences-cons same key (key_of r js y)) at w.left)

    pub counted-one : b ≡ true → Counted key (n + 1) (y + 1)
    unfolding bit
    counted-one t = let z = rw t at met in record { few = omega (arith, w.few); left = omega arith }

    pub counted-other : b ≡ false → Counted key n (y + 1)
    unfolding bit
    counted-other t = let z = rw t at met in record { few = omega (arith, w.few); left = omega arith }

  -- ---- every key occurs so many times: the test of the rows from x on comes to the whole test

  pub record Occurring (low high x : ℕ) : Type 0 where
    pub left : occurring low high (keys_in r js) (keys_behind r js x) ≡ occurring low high (keys_in r js) (keys_in r js)

  pub occurring-start : (low high : ℕ) → Occurring low high 0
  occurring-start low high = record { left = rw keys_all }

  module _ (low high x : ℕ) (w : Occurring low high x) where
    pub occurring-none : r.count ≤ x → true ≡ occurring low high (keys_in r js) (keys_in r js)
    unfolding occurring all
    occurring-none h = rw (keys_end x h, all) at w.left

    module _ {n : ℕ} {b : Bool} (h : x < r.count) (e : n ≡ occurrences same (key_of r js x) (keys_in r js)) (f : b ≡ in_range (low to high) n) where
      tested : b && occurring low high (keys_in r js) (keys_behind r js (x + 1)) ≡ occurring low high (keys_in r js) (keys_in r js)
      unfolding occurring all
      tested = rw (f, e) (rw (keys-here x h, all) at w.left)

      pub occurring-not : not b ≡ true → false ≡ occurring low high (keys_in r js) (keys_in r js)
      occurring-not q = rw (not-true b q) at tested

      pub occurring-more : not b ≡ false → Occurring low high (x + 1)
      occurring-more q = record { left = rw (not-false b q) at tested }
