-- Every limit of a well-formed diagram speaks of the diagram's own sets alone.
use Prim.Native.Nat.{ℕ, suc, ◌+◌, ◌≤◌, ◌<◌}
use Rattle.std.proofs.Math.Nat.{zero-add}
use Rattle.std.proofs.Common.{arith}
use Rattle.std.specs.Prelude.{Bool, not}
use mathlib.Core.List.{List, [], ◌∷◌, flat_map, flatten}
use Rattle.std.proofs.Math.ListN.{length, length-append}
use borrow.Author.Tests.{eqb-false, not-true}
use Rattle.counting.specs.Lists.{up_from, map_from}
use Rattle.counting.specs.Terms.{Each}
use Rattle.counting.proofs.Laws.Index.{at_in, at-below, each-from-at, of-flatten-map_from}
use Rattle.counting.specs.Index.{At}
use Rattle.counting.proofs.Laws.Members.{each_nil, each-cons, each-head, each_tail, each_append, each_map, of-flat_map}
use Rattle.counting.proofs.Laws.Range.{of-up_from}
use Rattle.fixpoint.specs.Limits.{Limit}
use Rattle.lowering.specs.Closed.{Inside}
use Rattle.orm.specs.Diagram.{ObjectType, Role, Frequency, Predicate, Diagram, is_root, must_play, is_mandatory, is_grouped, index}
use Rattle.orm.specs.Diagram.{all_roles, all_groups}
use Rattle.orm.proofs.Laws.Limits.{each-only_if}
use Rattle.orm.proofs.Laws.Select.{of-select}
use Rattle.orm.specs.Sets.{first_pred, first_role, first_group, upper, select, roles_of_type, roles_in_group, Placed, placed_from, placed}
use Rattle.orm.specs.Sets.{group_set, group_roles, Part, group_part, role_part, parts, at_most, limits_of_role, limits_of_group}
use Rattle.orm.specs.Sets.{limit_of_rows, limits_of_pred, limits_of_type, limits}
use Rattle.orm.specs.WellFormed.{TypeForm, PredForm, WellFormed}
use Rattle.orm.proofs.Laws.Bounds.{length-upper}

-- ---- limits and operands among the first n sets

module _ {n : ℕ} where
  inside-at_most : {s t : ℕ} → s < n → t < n → Inside n (at_most s t)
  unfolding at_most
  inside-at_most h k = record { target = h; operands = each-cons _ k (each_nil _) }

  each-items : {A : Type 0} (g : ℕ → A → List Limit) (i : ℕ) (xs : List A) → ((k : ℕ) (a : A) → At a xs k → Each (Inside n) (g (i + k) a))
      → Each (Inside n) (flatten (map_from g i xs))
  each-items g i xs h l m = let (k, a, p, q) = of-flatten-map_from g i xs m in h k a p l q

  select-below : (test : Role → Bool) (i : ℕ) (rs : List Role) → i + length rs ≤ n → Each (◌< n) (select test i rs)
  select-below test i rs h s m = let (k, r, p, e, t) = of-select test i rs m in omega (arith, at-below p)

-- ---- a predicate

-- Well-formed under so many types, and the types' sets and its own, its roles' and its groups' are among the first n
record Fits (n types : ℕ) (x : Placed) : Type 0 where
  players : types ≤ n
  own : x.own < n
  roles : x.roles + length x.predicate.roles ≤ n
  groups : x.groups + length x.predicate.groups ≤ n
  form : PredForm types x.predicate

module _ {n types : ℕ} {x : Placed} (f : Fits n types x) where
  -- the numbers of groups start at 1; a role in no group has number 0, whose set may lie behind the last
  group-below : (number : ℕ) → 1 ≤ number → number ≤ length x.predicate.groups → group_set x number < n
  unfolding group_set
  group-below number h k = omega (arith, f.groups)

  group-roles-below : (number : ℕ) → Each (◌< n) (group_roles x number)
  unfolding group_roles roles_in_group
  group-roles-below number = select-below _ x.roles x.predicate.roles f.roles

  role-inside : (k : ℕ) (r : Role) → At r x.predicate.roles k → Each (Inside n) (limits_of_role x (x.roles + k) r)
  unfolding limits_of_role is_grouped
  role-inside k r m =
      let own : x.roles + k < n = omega (arith, f.roles, at-below m) in
      let g = f.form.roles r (at_in m) in
      let player : index r.type < n = omega (arith, f.players, g.player.0, g.player.1) in
      each-cons _ (inside-at_most own player)
      (each-cons _ (inside-at_most own f.own)
      (each_append _ _ _
      (each-only_if _ _ (λ e. inside-at_most own (group-below r.group (omega (arith, eqb-false r.group 0 (not-true _ e))) g.group)))
      (each-only_if _ (is_mandatory r) (λ _. inside-at_most player own))))

  group-inside : (k : ℕ) (q : Frequency) → At q x.predicate.groups k → Each (Inside n) (limits_of_group x (1 + k) q)
  unfolding limits_of_group
  group-inside k q m =
      let own : group_set x (1 + k) < n = group-below (1 + k) (omega arith) (omega (arith, at-below m)) in
      each-cons _ (record { target = f.own; operands = each-cons _ own (each_nil _) })
      (each-cons _ (record { target = own; operands = each-cons _ f.own (each_nil _) })
      (each-cons _ (record { target = own; operands = group-roles-below (1 + k) }) (each_nil _)))

  parts_below : Each (λ (b : Part). b.own < n) (parts x)
  unfolding parts group_part role_part
  parts_below =
      let count : ℕ = length x.predicate.groups in
      each_append _ _ _
      (each_map _ (group_part x) (up_from 1 count) (λ k m. let (a, b) = of-up_from 1 count m in group-below k a (omega arith)))
      (each_map _ role_part (group_roles x 0) (group-roles-below 0))

  rows_inside : Inside n (limit_of_rows x)
  unfolding limit_of_rows
  rows_inside = record { target = f.own; operands = each_map (◌< n) (λ (b : Part). b.own) (parts x) parts_below }

  pred-inside : Each (Inside n) (limits_of_pred x)
  unfolding limits_of_pred
  pred-inside =
      each_append _ _ _
      (each_append _ _ _ (each-items (limits_of_role x) x.roles x.predicate.roles role-inside)
      (each-items (limits_of_group x) 1 x.predicate.groups group-inside))
      (each-cons _ rows_inside (each_nil _))

-- The sets of the predicates, of their roles and of their groups are numbered on from r, p and q
module _ {n types : ℕ} (players : types ≤ n) where
  placed-fit : (r p q : ℕ) (ps : List Predicate) → r + length ps ≤ n → p + length (flat_map (λ (x : Predicate). x.roles) ps) ≤ n
      → q + length (flat_map (λ (x : Predicate). x.groups) ps) ≤ n → Each (PredForm types) ps → Each (Fits n types) (placed_from r p q ps)
  unfolding flat_map placed_from
  placed-fit r p q [] a b c h = each_nil _
  placed-fit r p q (x ∷ ps) a b c h =
      let e = length-append x.roles (flat_map (λ (y : Predicate). y.roles) ps) in
      let g = length-append x.groups (flat_map (λ (y : Predicate). y.groups) ps) in
      each-cons _
      (record { players = players; own = omega arith; roles = omega arith; groups = omega arith; form = each-head _ h })
      (placed-fit (suc r) (p + length x.roles) (q + length x.groups) ps (omega arith) (omega arith) (omega arith) (each_tail _ h))

-- ---- the diagram

module _ (d : Diagram) (w : WellFormed d) where
  type-inside : (a : ℕ) (t : ObjectType) → At t d.types a → Each (Inside (length (upper d))) (limits_of_type d a t)
  unfolding limits_of_type roles_of_type first_role first_pred
  type-inside a t m =
      let e = length-upper d in
      let own : a < length (upper d) = omega (arith, e, at-below m) in
      let super : index t.super < length (upper d) = omega (arith, (each-from-at (TypeForm d.types) 1 w.types m).above) in
      each_append _ _ _ (each-only_if _ (not (is_root t)) (λ _. inside-at_most own super))
      (each-only_if _ (must_play d (suc a) t)
      (λ _. record { target = own; operands = select-below _ (first_role d) (all_roles d) (omega arith) }))

  all_fit : Each (Fits (length (upper d)) (length d.types)) (placed d)
  unfolding placed first_pred first_role first_group all_roles all_groups
  all_fit =
      let e = length-upper d in
      placed-fit (omega arith) (first_pred d) (first_role d) (first_group d) d.preds (omega arith) (omega arith) (omega arith) w.preds

  pub limits-inside : Each (Inside (length (upper d))) (limits d)
  unfolding limits
  limits-inside =
      each_append _ _ _
      (λ l m. let (x, p, q) = of-flat_map limits_of_pred (placed d) m in pred-inside (all_fit x p) l q)
      (each-items (limits_of_type d) 0 d.types (λ k t m. rw zero-add (type-inside k t m)))
