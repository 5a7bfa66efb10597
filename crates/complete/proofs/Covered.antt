-- The roles that a type plays, together, have all its members: K10.
use Rattle.std.specs.Prelude.{ℕ, suc, ◌+◌, ◌-◌, ◌≤◌, ◌<◌, ◌≡◌, refl, eqb}
use Rattle.std.proofs.Common.{sym, ◌∙◌, zero-add, arith, eqb-true}
use mathlib.Core.List.Memᴰ
use mathlib.Core.List.{List, flat_map}
use Rattle.counting.proofs.Laws.Index.{at_in, at-map_from}
use Rattle.counting.specs.Index.{At}
use Rattle.counting.specs.Lists.{map_from}
use Rattle.counting.proofs.Laws.Members.{in_flat_map}
use Rattle.counting.proofs.Laws.Range.{in_below-iff}
use Rattle.counting.specs.Terms.{NoRepeats, ◌∈◌}
use Rattle.orm.specs.Constraints.{Played, all_played, played}
use Rattle.orm.specs.Diagram.{Diagram, ObjectType, Role, all_roles}
use Rattle.orm.specs.Meaning.{M10}
use Rattle.orm.specs.Supertypes.{first_value}
use Rattle.orm.specs.Populate.{population, rows, size, taken_before, type_values}
use Rattle.orm.proofs.Laws.Select.{of-select, select_no_repeats}
use Rattle.orm.specs.Sets.{Placed, first_group, first_pred, first_role, placed, roles_of_type}
use Rattle.complete.proofs.Indices.{index-onto}
use Rattle.complete.proofs.Members.{member-taken, taken-by}
use Rattle.complete.proofs.Place.{flatten-placed, role-placed}
use Rattle.complete.proofs.Rows.{played-rows, played_in, value_in}
use Rattle.complete.specs.Solved.{Solved}
use Rattle.complete.proofs.Solved.{type-sum}
use Rattle.complete.proofs.Types.{values-iff}

module _ (d : Diagram) (c : List ℕ) where
  pub all_played-placed : all_played d (population d c) ≡ flat_map (λ (x : Placed). played x.predicate (rows d c x)) (placed d)
  unfolding all_played population placed
  all_played-placed = flatten-placed played (rows d c) _ _ _ d.preds

  in_all_played : {x : Placed} {j : ℕ} {r : Role} → x ∈ placed d → At r x.predicate.roles j → played_in d c x j r ∈ all_played d (population d c)
  in_all_played {x} {j} {r} m h =
      let n : played_in d c x j r ∈ map_from (played_in d c x) 0 x.predicate.roles = rw zero-add at (at_in (at-map_from (played_in d c x) 0 h refl)) in
      rw all_played-placed (in_flat_map _ m (rw (played-rows d c x) n))

-- A role of the type with this number, by its set
pub role-of-type : (d : Diagram) (number : ℕ) {p : ℕ} → p ∈ roles_of_type d number
    → (x : Placed) × (x ∈ placed d) × (j : ℕ) × (r : Role) × At r x.predicate.roles j × (p ≡ x.roles + j) × (r.type ≡ number)
unfolding roles_of_type all_roles placed
role-of-type d number n =
    let (k, r, h, e, t) = of-select _ (first_role d) (all_roles d) n in
    let (x, m, j, l, e') = role-placed (first_pred d) (first_role d) (first_group d) d.preds h in
    (x, m, j, r, l, e ∙ e', eqb-true r.type number t)

types_no_repeats : (d : Diagram) (number : ℕ) → NoRepeats (roles_of_type d number)
unfolding roles_of_type
types_no_repeats d number = select_no_repeats (λ (r : Role). eqb r.type number) (first_role d) (all_roles d)

module _ {d : Diagram} {c : List ℕ} (s : Solved d c) where
  -- A value is in the role that takes it
  role_takes : {x : Placed} {j : ℕ} {r : Role} (a o : ℕ) → x ∈ placed d → At r x.predicate.roles j → r.type ≡ suc a
      → taken_before c (x.roles + j) (roles_of_type d (suc a)) ≤ o → o < taken_before c (x.roles + j) (roles_of_type d (suc a)) + size c (x.roles + j)
      → o < size c a → first_value d.types a + o ∈ (played_in d c x j r).values
  role_takes {x} {j} {r} a o m h t before after below =
      let taken = taken_before c (x.roles + j) (roles_of_type d (suc a)) in
      let (i, l, e) = index-onto s m h (o - taken) (omega arith) in
      Memᴰ.cast (sym (member-taken c d (x.roles + j) r a o _ t (omega arith) below))
      (Memᴰ.map (value_in d c x j r) ((in_below-iff (size c x.own) i).1 l))

  pub k10 : {a : ℕ} {t : ObjectType} → At t d.types a → M10 d (population d c) (suc a) t (type_values d c a)
  k10 {a} h n v m = found (taken-by c (roles_of_type d (suc a)) (types_no_repeats d (suc a)) o (omega (arith, type-sum s h n, (values-iff d c a v).0 m)))
    where
      o : ℕ
      o = v - first_value d.types a

      found : (p : ℕ) × (p ∈ roles_of_type d (suc a)) × (taken_before c p (roles_of_type d (suc a)) ≤ o) ×
          (o < taken_before c p (roles_of_type d (suc a)) + size c p)
          → (y : Played) × (y ∈ all_played d (population d c)) × (y.role.type ≡ suc a) × (v ∈ y.values)
      found (p, l, before, after) =
          let (x, m', j, r, h', e, t) = role-of-type d (suc a) l in
          let (low, high) = (values-iff d c a v).0 m in (
            played_in d c x j r,
            in_all_played d c m' h',
            t,
            Memᴰ.cast (omega arith) (role_takes a o m' h' t (rw e at before) (rw e at after) (omega arith)),
          )
