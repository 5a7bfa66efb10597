-- How many lower and upper bounds a diagram has, how small the lower and how large the upper ones are.
use Rattle.std.specs.Prelude.{ℕ, ◌+◌, ◌-◌, ◌≤◌, min, ◌≡◌, Bool, true, false, List, length}
use Rattle.std.proofs.Math.Nat.{min-le_left}
use Rattle.std.proofs.Common.{arith, sym, ◌∙◌, length-append}
use Rattle.std.proofs.lemmas.List.{length-map}
use Rattle.counting.specs.Terms.{Each}
use Rattle.counting.proofs.Laws.Members.{each_append, each_map, of-flat_map}
use Rattle.counting.proofs.Laws.Index.{in_at, each-from-at}
use Rattle.orm.specs.Diagram.{ObjectType, Role, Frequency, Predicate, Diagram, all_roles, all_groups}
use Rattle.orm.specs.Supertypes.{has_range}
use Rattle.orm.specs.WellFormed.{TypeForm, WellFormed}
use Rattle.orm.specs.Sets.{first_pred, first_role, first_group, set_count, lower, upper_of_type, upper_of_role, upper}

module _ (d : Diagram) where
  -- as many as there are sets
  pub length-lower : length (lower d) ≡ length d.types + length d.preds + length (all_roles d) + length (all_groups d)
  unfolding lower
  length-lower = simp (length-append, length-map)

  pub length-upper : length (upper d) ≡ length d.types + length d.preds + length (all_roles d) + length (all_groups d)
  unfolding upper
  length-upper = simp (length-append, length-map)

  pub upper-sets : length (upper d) ≡ set_count d
  unfolding set_count first_group first_role first_pred
  upper-sets = length-upper

  pub bounds-paired : length (lower d) ≡ length (upper d)
  bounds-paired = length-lower ∙ sym length-upper

type-small : (ts : List ObjectType) (n : ℕ) (t : ObjectType) → TypeForm ts n t → upper_of_type t ≤ 4096
unfolding upper_of_type
type-small ts n t f = go (has_range t)
  where
    go : (b : Bool) → elim b [ true ↦ min t.max (t.last - t.first + 1) | false ↦ t.max ] ≤ 4096
    go true = omega (arith, f.most)
    go false = f.most

module _ (d : Diagram) (w : WellFormed d) where
  pub lower-few : length (lower d) ≤ 208
  lower-few = omega (arith, length-lower d, w.type_count.1, w.pred_count.1, w.role_count, w.group_count)

  pub upper-few : length (upper d) ≤ 208
  upper-few = omega (arith, length-upper d, w.type_count.1, w.pred_count.1, w.role_count, w.group_count)

  pub lower-positive : Each (1 ≤◌) (lower d)
  unfolding lower all_roles
  lower-positive =
      each_append _ _ _
      (each_append _ _ _
      (each_append _ _ _
      (each_map _ (λ (t : ObjectType). t.min) d.types (λ t m. let (i, at) = in_at m in (each-from-at (TypeForm d.types) 1 w.types at).some))
      (each_map _ (λ (p : Predicate). p.min) d.preds (λ p m. (w.preds p m).some)))
      (each_map _ (λ (r : Role). r.rmin) (all_roles d)
      (λ r m. let (p, k, l) = of-flat_map (λ (p : Predicate). p.roles) d.preds m in ((w.preds p k).roles r l).some)))
      (each_map _ (λ (f : Frequency). 1) (all_groups d) (λ f m. omega arith))

  pub upper-small : Each (◌≤ 4096) (upper d)
  unfolding upper upper_of_role
  upper-small =
      each_append _ _ _
      (each_append _ _ _
      (each_append _ _ _
      (each_map _ upper_of_type d.types (λ t m.
      let (i, at) = in_at m in
      type-small d.types (1 + i) t (each-from-at (TypeForm d.types) 1 w.types at)))
      (each_map _ (λ (p : Predicate). p.max) d.preds (λ p m. (w.preds p m).most)))
      (each_map _ upper_of_role (all_roles d) (λ r m. min-le_left 4096 r.rmax)))
      (each_map _ (λ (f : Frequency). 4096) (all_groups d) (λ f m. omega arith))
