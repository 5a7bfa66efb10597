-- The climbs to the root and to the nearest type with a range, a step at a time: what is left of the climb comes to the whole.
use Prim.Native.Nat.{ℕ, zero, suc, ◌+◌, ◌-◌, ◌≤◌, ◌<◌}
use native.Mathlib.Omega.{arith}
use mathlib.Core.Path.{◌≡◌, refl, sym, ap, ◌∙◌}
use mathlib.Core.Bool.{Bool, true, false}
use mathlib.Core.List.{List}
use borrow.Author.Tests.{eq-eqb, ne_eqb}
use lib.ListN.{drop}
use Rattle.orm.specs.Diagram.{ObjectType, index}
use Rattle.orm.specs.Supertypes.{super_at, first_at, last_at, climb, is_root_at, root, first_value, has_range_at, nearest, last_value}
use Rattle.reading.specs.Walk.{types_in}
use Rattle.supertypes.specs.Entries.{entry_at}
use Rattle.supertypes.specs.Laws.{super-is, first-is, last-is}

module _ (t : List ℕ) (count : ℕ) where
  abbrev types : List ObjectType
  types = types_in count (drop 2 t)

  -- ---- a step

  module _ (ends : ℕ → Bool) where
    split : (k x : ℕ) (b : Bool) → 0 < k → ends x ≡ b
        → climb ends types k x ≡ elim b [ true ↦ x | false ↦ climb ends types (k - 1) (index (super_at types x)) ]
    unfolding climb
    split zero x b h e = absurd (omega arith)
    split (suc k) x b h e =
        let same : k ≡ suc k - 1 = omega arith in
        rw (e, climb) (ap (λ (m : ℕ). elim b as (λ _. ℕ) [ true ↦ x | false ↦ climb ends types m (index (super_at types x)) ]) same)

    module _ (a i x : ℕ) {r : ℕ} (w : climb ends types (a - i) x ≡ r) where
      here : i < a → ends x ≡ true → x ≡ r
      here h e = sym (split (a - i) x true (omega arith) e) ∙ w

      next : {above : ℕ} → i < a → ends x ≡ false → above ≡ entry_at t count x 4 → climb ends types (a - (i + 1)) (index above) ≡ r
      next h e ea =
          let k : a - (i + 1) ≡ a - i - 1 = omega arith in
          rw (k, ea, super-is t count x) (sym (split (a - i) x false (omega arith) e) ∙ w)

      pub climb-end : a ≤ i → x ≡ r
      unfolding climb
      climb-end h = let z : a - i ≡ 0 = omega arith in rw z at w

  -- ---- to the root

  pub root-start : (a : ℕ) → climb (is_root_at types) types (a - 0) a ≡ root types a
  unfolding root
  root-start a = let z : a - 0 ≡ a = omega arith in rw z refl

  module _ (a i x : ℕ) {r : ℕ} (w : climb (is_root_at types) types (a - i) x ≡ r) {above : ℕ} (h : i < a) (e : above ≡ entry_at t count x 4) where
    pub root-here : above ≡ 0 → x ≡ r
    unfolding is_root_at
    root-here z = here (is_root_at types) a i x w h (eq-eqb (super_at types x) 0 (sym (e ∙ super-is t count x) ∙ z))

    pub root-next : (above ≡ 0 → ⊥) → climb (is_root_at types) types (a - (i + 1)) (above - 1) ≡ r
    unfolding is_root_at
    root-next n = next (is_root_at types) a i x w h (ne_eqb (super_at types x) 0 (λ z. n (e ∙ super-is t count x ∙ z))) e

  pub first-value-is : (a : ℕ) {x r : ℕ} → x ≡ root types a → r ≡ entry_at t count x 2 → r ≡ first_value types a
  unfolding first_value
  first-value-is a {x} ex er = er ∙ first-is t count x ∙ ap (first_at types) ex

  -- ---- to the nearest type with a range

  pub nearest-start : (a : ℕ) → climb (has_range_at types) types (a - 0) a ≡ nearest types a
  unfolding nearest
  nearest-start a = let z : a - 0 ≡ a = omega arith in rw z refl

  module _ (a i x : ℕ) {r : ℕ} (w : climb (has_range_at types) types (a - i) x ≡ r) (h : i < a) {b : Bool} (e : b ≡ has_range_at types x) where
    pub nearest-here : b ≡ true → x ≡ r
    nearest-here z = here (has_range_at types) a i x w h (sym e ∙ z)

    pub nearest-next : {above y : ℕ} → b ≡ false → above ≡ entry_at t count x 4 → y ≡ index above → climb (has_range_at types) types (a - (i + 1)) y ≡ r
    nearest-next z ea ey = rw ey (next (has_range_at types) a i x w h (sym e ∙ z) ea)

  pub last-value-is : (a : ℕ) {x r : ℕ} → x ≡ nearest types a → r ≡ entry_at t count x 3 → r ≡ last_value types a
  unfolding last_value
  last-value-is a {x} ex er = er ∙ last-is t count x ∙ ap (last_at types) ex
