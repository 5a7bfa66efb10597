-- The values of the types: K1 to K4.
use Rattle.std.specs.Prelude.{ℕ, suc, ◌+◌, ◌-◌, min, ◌≤◌, ◌<◌, ◌≡◌, ◌↔◌, Bool, true, false, length}
use Rattle.std.proofs.Common.{sym, ◌∙◌, le_refl, arith}
use mathlib.Core.List.{List, []}
use Rattle.std.proofs.Math.Nat.{min-le_right, zero-add}
use Rattle.counting.proofs.Laws.Index.{at-below}
use Rattle.counting.specs.Index.{At}
use Rattle.counting.proofs.Laws.Range.{get_or-map-up_from, in_up_from, length-up_from, of-up_from, up_from_no_repeats}
use Rattle.counting.specs.Terms.{◌∈◌}
use Rattle.orm.specs.Constraints.{members_of}
use Rattle.orm.specs.Diagram.{Diagram, ObjectType, index}
use Rattle.orm.specs.Meaning.{EachType, HasRange, M1, M2, M3, M4}
use Rattle.orm.specs.Populate.{population, size, type_values}
use Rattle.orm.specs.Supertypes.{first_value, has_range}
use Rattle.orm.specs.Sets.{upper_of_type}
use Rattle.orm.proofs.Laws.Decided.{has_range_decides}
use Rattle.orm.proofs.Laws.Supertypes.{super_at_nth, form-supers, first-super, range_first}
use Rattle.complete.proofs.Place.{each-type}
use Rattle.complete.specs.Solved.{Solved}
use Rattle.complete.proofs.Solved.{type-form, type-least, type-most, type-super}

-- ---- values

upper-max : (t : ObjectType) → upper_of_type t ≤ t.max
unfolding upper_of_type
upper-max t = go (has_range t)
  where
    go : (b : Bool) → elim b [ true ↦ min t.max (t.last - t.first + 1) | false ↦ t.max ] ≤ t.max
    go true = omega arith
    go false = le_refl _

upper_range : (t : ObjectType) → HasRange t → upper_of_type t ≤ t.last - t.first + 1
unfolding upper_of_type
upper_range t r = rw ((has_range_decides t).1 r, upper_of_type) (min-le_right _ _)

module _ (d : Diagram) (c : List ℕ) where
  pub values-iff : (a v : ℕ) → v ∈ type_values d c a ↔ ((first_value d.types a ≤ v) × (v < first_value d.types a + size c a))
  unfolding type_values
  values-iff a v = (of-up_from _ _, λ h. in_up_from _ _ h.0 h.1)

  pub length-type_values : (a : ℕ) → length (type_values d c a) ≡ size c a
  unfolding type_values
  length-type_values a = length-up_from _ _

  pub members-of : (number : ℕ) → index number < length d.types → members_of (population d c) number ≡ type_values d c (index number)
  unfolding members_of population
  members-of number h = rw zero-add at (get_or-map-up_from (type_values d c) 0 (length d.types) (index number) [] h)

module _ {d : Diagram} {c : List ℕ} (s : Solved d c) where
  pub each-type-populated : (P : ℕ → ObjectType → List ℕ → Type 0) → ((a : ℕ) (t : ObjectType) → At t d.types a → P (suc a) t (type_values d c a))
      → EachType P 1 d.types (population d c).types
  unfolding population
  each-type-populated P h = each-type P (type_values d c) 0 d.types (λ a t n. rw (zero-add a) (h a t n))

  pub k1 : EachType (M1) 1 d.types (population d c).types
  unfolding type_values
  k1 = each-type-populated _ (λ a t h. up_from_no_repeats (first_value d.types a) (size c a))

  pub k2 : EachType (M2) 1 d.types (population d c).types
  k2 = each-type-populated _ (λ a t h. rw (length-type_values d c a) (type-least s h, omega (arith, type-most s h, upper-max t)))

  pub k3 : EachType (M3) 1 d.types (population d c).types
  k3 = each-type-populated _ within
    where
      within : (a : ℕ) (t : ObjectType) → At t d.types a → M3 (suc a) t (type_values d c a)
      within a t h r v m =
          omega (
            arith,
            (values-iff d c a v).0 m,
            range_first d.types s.form.types h r,
            type-most s h,
            upper_range t r,
            (type-form s h).values r,
          )

  pub k4 : EachType (M4 (population d c)) 1 d.types (population d c).types
  k4 = each-type-populated _ within
    where
      within : (a : ℕ) (t : ObjectType) → At t d.types a → M4 (population d c) (suc a) t (type_values d c a)
      within a t h n v m =
          let i = super_at_nth h in
          let supers = form-supers d.types d.types s.form.types in
          let first : first_value d.types a ≡ first_value d.types (index t.super) =
          rw i at (first-super d.types supers a (λ e. n (sym i ∙ e))) in
          let (low, high) = (values-iff d c a v).0 m in
          rw (members-of d c t.super (omega (arith, (type-form s h).above, at-below h)))
          ((values-iff d c (index t.super) v).1 (omega arith, omega (arith, type-super s h n)))
