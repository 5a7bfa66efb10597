-- The limits of a type's set hold of the sizes of a population that meets the constraints.
use Rattle.std.specs.Prelude.{ℕ, suc, ◌+◌, ◌≤◌, ◌≡◌, Bool, true, false, List, [], ◌∷◌, ◌++◌, map, eqb, length, get_or}
use Rattle.std.proofs.Math.Nat.{le_refl}
use Rattle.std.proofs.Common.{zero-add, one-add, arith}
use Rattle.std.proofs.lemmas.Bool.{not-true, eqb-false}
use Rattle.counting.specs.Totals.{sum_over}
use Rattle.counting.specs.Distinct.{distinct}
use Rattle.counting.specs.Terms.{◌⊆◌, NoRepeats}
use Rattle.counting.proofs.Laws.Members.{each_append, no_repeats_le}
use Rattle.counting.proofs.Laws.Sizes.{no_repeats_le_distinct, distinct_append_le}
use Rattle.counting.proofs.Laws.Instances.{eqb_decides}
use Rattle.counting.proofs.Laws.Index.{at-below, below_at, each-from-at}
use Rattle.counting.specs.Index.{At}
use Rattle.fixpoint.specs.Limits.{value_of}
use Rattle.fixpoint.specs.Notions.{Holds, Satisfies}
use Rattle.orm.specs.Diagram.{ObjectType, Role, Diagram, index, is_root}
use Rattle.orm.specs.Sets.{first_role, select, roles_of_type, limits_of_type}
use Rattle.orm.specs.Population.{Population}
use Rattle.orm.specs.Constraints.{Played, member_count, all_played, values_in_roles, members_of, sizes}
use Rattle.orm.specs.Meaning.{Between, MustPlay, M1, M4, M10, EachType, Meets, Shaped}
use Rattle.orm.proofs.Laws.Decided.{must_play_decides, in_roles}
use Rattle.orm.specs.WellFormed.{WellFormed, TypeForm}
use Rattle.sound.proofs.Each.{each-type}
use Rattle.sound.proofs.Segments.{Segment, size-at, head-size, tail}
use Rattle.sound.proofs.Positions.{roles-played, types_segment, roles_segment, size-of-type}
use Rattle.orm.proofs.Laws.Limits.{each-only_if}
use Rattle.sound.proofs.Satisfied.{at-most}

-- The values in some roles are at most the sum of these roles' sizes
values_le_sum : (c : List ℕ) (number i : ℕ) (xs : List Played) → Segment member_count c i xs
    → length (distinct eqb (values_in_roles number xs)) ≤ sum_over (λ s. get_or c s 0)
    (select (λ (r : Role). eqb r.type number) i (map (λ (x : Played). x.role) xs))
unfolding values_in_roles select sum_over
values_le_sum c number i [] s = unfold distinct in le_refl 0
values_le_sum c number i (x ∷ xs) s = go (eqb x.role.type number) (values_le_sum c number (suc i) xs (tail member_count s))
  where
    rest : List ℕ
    rest = values_in_roles number xs

    places : List ℕ
    places = select (λ (r : Role). eqb r.type number) (suc i) (map (λ (x : Played). x.role) xs)

    go : (b : Bool) → length (distinct eqb rest) ≤ sum_over (λ s. get_or c s 0) places
        → length (distinct eqb (elim b [ true ↦ x.values ++ rest | false ↦ rest ])) ≤ sum_over (λ s. get_or c s 0)
        (elim b [ true ↦ i ∷ places | false ↦ places ])
    go true h = omega (arith, distinct_append_le eqb_decides x.values rest, head-size member_count s)
    go false h = h

module _ (d : Diagram) (o : Population) (form : WellFormed d) (shaped : Shaped d o) (meets : Meets d o) {t : ObjectType} {a : ℕ}
    (t-at : At t d.types a) where
  abbrev c : List ℕ
  c = sizes d o

  vs-at : (vs : List ℕ) × At vs o.types a
  vs-at = below_at o.types a (omega (arith, at-below t-at, shaped.types))

  abbrev vs : List ℕ
  vs = vs-at.0

  constraint : (P : ℕ → ObjectType → List ℕ → Type 0) → EachType P 1 d.types o.types → P (1 + a) t vs
  constraint P h = each-type P 1 h t-at vs-at.1

  type-form : TypeForm d.types (1 + a) t
  type-form = each-from-at (TypeForm d.types) 1 form.types t-at

  size-of-own : get_or c a 0 ≡ length vs
  size-of-own = rw zero-add at (size-at length (types_segment d o shaped) vs-at.1)

  differ : NoRepeats vs
  differ = constraint (M1) meets.k1

  subtype_le_supertype : ¬ (t.super ≡ 0) → get_or c a 0 ≤ get_or c (index t.super) 0
  subtype_le_supertype n =
      let h : Between 1 t.super (length d.types) = omega (arith, type-form.above, at-below t-at) in
      omega (
        arith,
        size-of-own,
        size-of-type d o shaped t.super h,
        no_repeats_le vs (members_of o t.super) differ
            (constraint (M4 o) meets.k4 n),
      )

  type_le_roles : MustPlay d (suc a) t → get_or c a 0 ≤ sum_over (λ s. get_or c s 0) (roles_of_type d (suc a))
  unfolding roles_of_type
  type_le_roles n =
      let in-role : vs ⊆ values_in_roles (suc a) (all_played d o) =
      λ v m. (in_roles (suc a) v (all_played d o)).1 ((rw (one-add a) at (constraint (M10 d o) meets.k10)) n v m) in
      let h = rw (roles-played d o shaped) at (values_le_sum c (suc a) (first_role d) (all_played d o) (roles_segment d o shaped)) in
      omega (arith, size-of-own, no_repeats_le_distinct eqb_decides vs (values_in_roles (suc a) (all_played d o)) differ in-role, h)

  pub type-limits : Satisfies (limits_of_type d a t) c
  unfolding limits_of_type is_root value_of
  type-limits = each_append (Holds c) _ _
      (each-only_if (Holds c) _ (λ e. at-most c _ _ (subtype_le_supertype (eqb-false t.super 0 (not-true _ e)))))
      (each-only_if (Holds c) _ (λ e. type_le_roles ((must_play_decides d (suc a) t).0 e)))
