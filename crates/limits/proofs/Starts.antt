-- The upper bound of a type and of a role, and the bounds of all sets put together from their four parts.
use Prim.Native.Nat.{ℕ, ◌+◌, ◌-◌, ◌≤◌, ◌<◌, min}
use native.Mathlib.Omega.{arith}
use mathlib.Core.Path.{◌≡◌, refl, sym, ap, ◌∙◌}
use mathlib.Core.Bool.{Bool, true, false, not}
use mathlib.Core.List.{List, [], ◌∷◌, ◌++◌, map}
use lib.ListN.{length, get_or, replicate}
use borrow.Author.Tests.{not-true, not-false}
use Rattle.orm.specs.Diagram.{ObjectType, Role, Frequency, Predicate, Diagram, all_roles, all_groups}
use Rattle.orm.specs.Supertypes.{has_range}
use Rattle.orm.specs.Form.{type_of}
use Rattle.orm.specs.Sets.{lower, upper, upper_of_type, upper_of_role}
use Rattle.table.specs.Positions.{wide_role}
use Rattle.buffer.specs.declared.output.Output.{Output}
use Rattle.buffer.specs.Written.{Wrote}
use Rattle.buffer.specs.Laws.{wrote_then, wrote_as}

module _ (s : List ℕ) {ranged : Bool} {most : ℕ} (es : ranged ≡ has_range (type_of s)) (em : most ≡ get_or s 1 0) where
  pub upper-none : not ranged ≡ true → most ≡ upper_of_type (type_of s)
  unfolding upper_of_type
  upper-none h = rw (← es, not-true ranged h, upper_of_type) em

  module _ {first last values : ℕ} (h : not ranged ≡ false) (ef : first ≡ get_or s 2 0) (el : last ≡ get_or s 3 0) (ev : values ≡ last - first + 1) where
    smaller : min most values ≡ upper_of_type (type_of s)
    unfolding upper_of_type
    smaller = rw (← es, not-false ranged h, upper_of_type, ev, em, ef, el)

    pub upper-values : values < most → values ≡ upper_of_type (type_of s)
    upper-values k = let e : values ≡ min most values = omega arith in e ∙ smaller

    pub upper-most : most ≤ values → most ≡ upper_of_type (type_of s)
    upper-most k = let e : most ≡ min most values = omega arith in e ∙ smaller

module _ (s : List ℕ) {most : ℕ} (em : most ≡ get_or s 4 0) where
  pub role-below : most < 4096 → most ≡ upper_of_role (wide_role s)
  unfolding upper_of_role
  role-below h = omega (arith, em)

  pub role-most : 4096 ≤ most → 4096 ≡ upper_of_role (wide_role s)
  unfolding upper_of_role
  role-most h = omega (arith, em)

map_same : {A : Type 0} (x : ℕ) (ys : List A) → map (λ (y : A). x) ys ≡ replicate (length ys) x
map_same x [] = refl
map_same x (y ∷ ys) = ap {B = List ℕ} (λ zs. x ∷ zs) (map_same x ys)

module _ (d : Diagram) {o o₁ o₂ o₃ o₄ : Output ℕ} {groups : ℕ} (eg : groups ≡ length (all_groups d)) where
  -- the bounds of the types, of the predicates and of the roles, then `x` for each group
  all-sets : {types preds roles : List ℕ} (x : ℕ) → Wrote o types o₁ → Wrote o₁ preds o₂ → Wrote o₂ roles o₃
      → Wrote o₃ (replicate groups x) o₄ → Wrote o (types ++ preds ++ roles ++ map (λ (f : Frequency). x) (all_groups d)) o₄
  all-sets x w₁ w₂ w₃ w₄ =
      let w₄' : Wrote o₃ (map (λ (f : Frequency). x) (all_groups d)) o₄ =
      wrote_as w₄ (ap (λ (n : ℕ). replicate n x) eg ∙ sym (map_same x (all_groups d))) in
      wrote_then (wrote_then (wrote_then w₁ w₂) w₃) w₄'

  pub lower_is : Wrote o (map (λ (t : ObjectType). t.min) d.types) o₁
      → Wrote o₁ (map (λ (p : Predicate). p.min) d.preds) o₂ → Wrote o₂ (map (λ (r : Role). r.rmin) (all_roles d)) o₃
      → Wrote o₃ (replicate groups 1) o₄ → Wrote o (lower d) o₄
  unfolding lower
  lower_is = all-sets 1

  pub upper_is : Wrote o (map upper_of_type d.types) o₁ → Wrote o₁ (map (λ (p : Predicate). p.max) d.preds) o₂
      → Wrote o₂ (map upper_of_role (all_roles d)) o₃ → Wrote o₃ (replicate groups 4096) o₄ → Wrote o (upper d) o₄
  unfolding upper
  upper_is = all-sets 4096
