-- FIRST and LAST on a type line.
use Prim.Native.Nat.{ℕ, ◌-◌, ◌≤◌, ◌<◌}
use mathlib.Core.Path.{◌≡◌, sym, ap, ◌∙◌}
use mathlib.Core.Bool.{Bool, true, false, not}
use mathlib.Core.List.{List}
use lib.Dec.{leb, eqb}
use lib.ListN.{get_or, drop}
use borrow.Author.Tests.{eq-eqb, ne_eqb, le-leb, lt-leb, not-true, not-false}
use Rattle.orm.specs.Diagram.{ObjectType, is_root, index}
use Rattle.orm.specs.Supertypes.{first_value, has_range, last_value}
use Rattle.orm.specs.Form.{type_of, within_super, values_in_order}
use Rattle.reading.specs.Walk.{types_in}

-- of the type with the numbers `v`, after these types
module _ (ts : List ObjectType) (v : List ℕ) {b : Bool} (e : b ≡ has_range (type_of v)) where
  pub order-none : not b ≡ true → true ≡ values_in_order ts (type_of v)
  unfolding values_in_order
  order-none n = rw (← e, not-true b n, values_in_order)

  module _ (n : not b ≡ false) where
    pub order_turned : get_or v 3 0 < get_or v 2 0 → false ≡ values_in_order ts (type_of v)
    unfolding values_in_order
    order_turned h = rw (← e, not-false b n, lt-leb (get_or v 2 0) (get_or v 3 0) h, values_in_order)

    module _ (h : get_or v 2 0 ≤ get_or v 3 0) where
      pub order-root : get_or v 4 0 ≡ 0 → true ≡ values_in_order ts (type_of v)
      unfolding values_in_order is_root
      order-root z = rw (← e, not-false b n, le-leb (get_or v 2 0) (get_or v 3 0) h, eq-eqb (get_or v 4 0) 0 z, values_in_order)

      pub order-within : {us : List ObjectType} {r : Bool} → (get_or v 4 0 ≡ 0 → ⊥) → r ≡ within_super us (type_of v) → us ≡ ts
          → r ≡ values_in_order ts (type_of v)
      unfolding values_in_order is_root
      order-within m w z = rw (← e, not-false b n, le-leb (get_or v 2 0) (get_or v 3 0) h, ne_eqb (get_or v 4 0) 0 m, values_in_order) (rw z at w)

-- `a` is the index of its SUPER
module _ (ts : List ObjectType) (v : List ℕ) {a f : ℕ} (ef : f ≡ first_value ts a) (ea : a ≡ index (get_or v 4 0)) where
  pub within-last : {l : ℕ} → get_or v 2 0 ≡ f → l ≡ last_value ts a → leb (get_or v 3 0) l ≡ within_super ts (type_of v)
  unfolding within_super
  within-last e el = rw (← ea, eq-eqb (get_or v 2 0) (first_value ts a) (e ∙ ef), ← el)

  pub within-other : (get_or v 2 0 ≡ f → ⊥) → eqb (get_or v 2 0) f ≡ within_super ts (type_of v)
  unfolding within_super
  within-other n = rw (ne_eqb (get_or v 2 0) f n, ← ea, ne_eqb (get_or v 2 0) (first_value ts a) (λ e. n (e ∙ sym ef)))

-- the types before the one with this number
pub types-before : (s : List ℕ) (own : ℕ) {n : ℕ} → n ≡ index own → types_in n (drop 2 s) ≡ types_in (own - 1) (drop 2 s)
types-before s own e = ap (λ (k : ℕ). types_in k (drop 2 s)) e
