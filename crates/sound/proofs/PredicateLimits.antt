-- The limits of a predicate's sets hold of the sizes of a population that meets the constraints.
use Prim.Native.Nat.{ℕ, zero, suc, ◌+◌, ◌-◌, ◌*◌, ◌/◌, ◌≤◌, ◌<◌}
use Rattle.std.specs.Prelude.{◌≡◌, length, get_or}
use Rattle.std.proofs.Math.Path.{refl}
use Rattle.std.proofs.Common.{sym, ap₂, le_trans, le_of_eq, mul_comm, le-div_iff_mul-le, arith}
use Rattle.std.proofs.Math.Logic.{⊎_elim}
use mathlib.Core.List.Memᴰ
use mathlib.Core.List.Memᴰ.{head as here}
use mathlib.Core.List.{List, [], ◌∷◌, map}
use Rattle.std.proofs.Math.Nat.{add-sub_cancel_left, add-zero, zero-add}
use borrow.Author.Tests.{not-true, eqb-true, eqb-false, eq-eqb}
use Rattle.std.proofs.Math.Dec.{eqb}
use Rattle.std.proofs.lemmas.List.{length-map}
use Rattle.counting.specs.Lists.{up_from, same, column, combination}
use Rattle.counting.specs.Totals.{product_over}
use Rattle.counting.specs.Distinct.{occurrences}
use Rattle.counting.specs.Terms.{◌∈◌, ◌⊆◌}
use Rattle.counting.proofs.Laws.Distinct.{length-distinct-iff}
use Rattle.counting.proofs.Laws.Sizes.{distinct_le_length, no_repeats_le_distinct}
use Rattle.counting.proofs.Laws.Products.{distinct_le_product_over, rows_agree}
use Rattle.counting.proofs.Laws.Multiplicity.{occurrences_ge, occurrences_le}
use Rattle.counting.proofs.Laws.Instances.{eqb_decides, same_decides}
use Rattle.counting.proofs.Laws.Members.{each_nil, each-cons, each_append}
use Rattle.counting.proofs.Laws.Index.{at_in, at-below, below_at, of-flatten-map_from, each-from-at, each2_at}
use Rattle.counting.specs.Index.{At}
use Rattle.counting.proofs.Laws.Range.{of-up_from, in_up_from}
use Rattle.fixpoint.specs.Limits.{value_of}
use Rattle.fixpoint.specs.Notions.{Holds, Satisfies}
use Rattle.orm.specs.Diagram.{Role, Frequency, Predicate, Diagram, index, is_grouped, is_mandatory}
use Rattle.orm.specs.Sets.{roles_in_group, Placed, group_set, group_roles, Part, group_part, role_part, parts, limits_of_role, limits_of_group, limit_of_rows, limits_of_pred}
use Rattle.orm.specs.Population.{Population}
use Rattle.orm.specs.Constraints.{members_of, sizes}
use Rattle.orm.specs.Meaning.{Between, M5, M7, M8, M9, EachPred, Meets, Rows, Shaped}
use Rattle.orm.specs.WellFormed.{WellFormed, PredForm, RoleForm, GroupForm}
use Rattle.orm.proofs.Laws.Select.{of-select, in_select, select-from}
use Rattle.sound.proofs.Each.{each-pred}
use Rattle.sound.proofs.Counts.{column_size, combination_size, product_le, combination_agree, column_le_rows, column_le_combination, combination_le_product, combination_le_column}
use Rattle.orm.proofs.Laws.Limits.{each-only_if}
use Rattle.sound.proofs.Satisfied.{at-most}
use Rattle.sound.proofs.Positions.{played-at, grouped-at, Located, Found, size-of-type, members-differ}

-- ---- the columns of a predicate's parts

shifted_back : (n : ℕ) (js : List ℕ) → map (λ s. s - n) (map (λ j. n + j) js) ≡ js
shifted_back n [] = refl
shifted_back n (j ∷ js) = ap₂ ◌∷◌ (omega arith) (shifted_back n js)

module _ (x : Placed) where
  abbrev columns_in : ℕ → List ℕ
  columns_in g = roles_in_group g 0 x.predicate.roles

  group-roles : (g : ℕ) → group_roles x g ≡ map (λ j. x.roles + j) (columns_in g)
  unfolding group_roles roles_in_group
  group-roles g = rw add-zero at (select-from (λ r. eqb r.group g) x.roles 0 x.predicate.roles)

  column-below : (g : ℕ) {j : ℕ} → j ∈ columns_in g → j < length x.predicate.roles
  unfolding roles_in_group
  column-below g m =
      let (j, r, h, e, t) = of-select _ 0 x.predicate.roles m in
      omega (arith, at-below h)

  column_in : {r : Role} {j : ℕ} → At r x.predicate.roles j → j ∈ columns_in r.group
  unfolding roles_in_group
  column_in {r} a = rw zero-add at (in_select (λ s. eqb s.group r.group) 0 a (eq-eqb r.group r.group refl))

  abbrev columns_of : Part → List ℕ
  columns_of b = map (λ s. s - x.roles) b.roles

  columns-of-group : (g : ℕ) → columns_of (group_part x g) ≡ columns_in g
  unfolding group_part
  columns-of-group g = rw group-roles (shifted_back x.roles (columns_in g))

  in_ungrouped : {r : Role} {j : ℕ} → At r x.predicate.roles j → r.group ≡ 0 → x.roles + j ∈ group_roles x 0
  in_ungrouped a e = rw (group-roles 0) (Memᴰ.map (λ j. x.roles + j) (rw e at (column_in a)))

  of_ungrouped : {s : ℕ} → s ∈ group_roles x 0 → (j : ℕ) × (j < length x.predicate.roles) × (s ≡ x.roles + j)
  of_ungrouped m =
      let r = Memᴰ.of_map (λ j. x.roles + j) (columns_in 0) (rw (group-roles 0) at m) in
      (r.0, column-below 0 r.1, sym r.2)

  -- Every column is in a part
  covered : {r : Role} {j : ℕ} → At r x.predicate.roles j → r.group ≤ length x.predicate.groups
      → (b : Part) × (b ∈ parts x) × (j ∈ columns_of b)
  unfolding parts
  covered {r} {j} a h = go r.group refl
    where
      go : (g : ℕ) → r.group ≡ g → (b : Part) × (b ∈ parts x) × (j ∈ columns_of b)
      go zero e = (
        role_part (x.roles + j),
        Memᴰ.append_right (map (group_part x) (up_from 1 (length x.predicate.groups)))
            (Memᴰ.map role_part (in_ungrouped a e)),
        unfold role_part in here (sym (add-sub_cancel_left x.roles j)),
      )
      go (suc g) e = (
        group_part x r.group,
        Memᴰ.append_left (map role_part (group_roles x 0))
            (Memᴰ.map (group_part x) (in_up_from 1 (length x.predicate.groups) (omega arith) (omega arith))),
        rw (columns-of-group r.group)
            (column_in a),
      )

-- ---- a predicate and its rows

module _ (d : Diagram) (o : Population) (form : WellFormed d) (shaped : Shaped d o) (meets : Meets d o) (x : Placed)
    (found : Found (sizes d o) d.preds o.preds x) where
  abbrev c : List ℕ
  c = sizes d o

  abbrev p : Predicate
  p = x.predicate

  abbrev rows : List (List ℕ)
  rows = found.rows

  abbrev located : Located c x rows
  located = found.located

  constraint : (P : Predicate → List (List ℕ) → Type 0) → EachPred P d.preds o.preds → P p rows
  constraint P h = each-pred P h found.predicate_at found.rows_at

  pred-form : PredForm (length d.types) p
  pred-form = form.preds p (at_in found.predicate_at)

  module _ {r : Role} {j : ℕ} (a : At r p.roles j) where
    role-form : RoleForm (length d.types) (length p.groups) r
    role-form = pred-form.roles r (at_in a)

    abbrev values : List ℕ
    values = column j rows

    abbrev members : List ℕ
    members = members_of o r.type

    size-of-role : get_or c (x.roles + j) 0 ≡ column_size rows j
    size-of-role = located.role j (at-below a)

    size-of-player : get_or c (index r.type) 0 ≡ length members
    size-of-player = size-of-type d o shaped r.type role-form.player

    role_le_type : get_or c (x.roles + j) 0 ≤ get_or c (index r.type) 0
    role_le_type =
        let s : values ⊆ members = constraint (M7 o) meets.k7 _ (at_in (played-at p rows a)) in
        omega (arith, size-of-role, size-of-player, distinct_le_length eqb_decides values members s)

    type_le_role : r.mand ≡ 1 → get_or c (index r.type) 0 ≤ get_or c (x.roles + j) 0
    type_le_role e =
        let s : members ⊆ values = constraint (M8 o) meets.k8 _ (at_in (played-at p rows a)) e in
        omega (
          arith,
          size-of-role,
          size-of-player,
          no_repeats_le_distinct eqb_decides members values
              (members-differ d o shaped r.type role-form.player meets.k1) s,
        )

    role_le_predicate : get_or c (x.roles + j) 0 ≤ get_or c x.own 0
    role_le_predicate = omega (arith, size-of-role, located.own, column_le_rows rows j)

    role_le_group : 1 ≤ r.group → get_or c (x.roles + j) 0 ≤ get_or c (group_set x r.group) 0
    role_le_group h =
        omega (
          arith,
          size-of-role,
          located.group r.group (h, role-form.group),
          column_le_combination rows (columns_in x r.group)
              (column_in x a),
        )

    role-limits : Satisfies (limits_of_role x (x.roles + j) r) c
    unfolding limits_of_role is_grouped is_mandatory
    role-limits =
        each-cons (Holds c) (at-most c _ _ role_le_type)
        (each-cons (Holds c) (at-most c _ _ role_le_predicate)
        (each_append (Holds c) _ _
        (each-only_if (Holds c) _ (λ e. at-most c _ _ (role_le_group (omega (arith, eqb-false r.group 0 (not-true _ e))))))
        (each-only_if (Holds c) _ (λ e. at-most c _ _ (type_le_role (eqb-true r.mand 1 e))))))

  module _ {f : Frequency} {k : ℕ} (a : At f p.groups k) where
    group-form : GroupForm p.roles (1 + k) f
    group-form = each-from-at (GroupForm p.roles) 1 pred-form.groups a

    abbrev combinations : List (List ℕ)
    combinations = map (combination (columns_in x (1 + k))) rows

    size-of-group : get_or c (group_set x (1 + k)) 0 ≡ combination_size rows (columns_in x (1 + k))
    size-of-group = located.group (1 + k) (omega arith, omega (arith, at-below a))

    combinations-length : length combinations ≡ length rows
    combinations-length = length-map rows (combination (columns_in x (1 + k)))

    frequency : (v : List ℕ) → v ∈ combinations → Between f.fmin (occurrences same v combinations) f.fmax
    frequency = constraint (M9) meets.k9 _ (at_in (grouped-at p rows a refl))

    predicate_le_group : get_or c x.own 0 ≤ f.fmax * get_or c (group_set x (1 + k)) 0
    predicate_le_group =
        rw (located.own, size-of-group, ← combinations-length) (occurrences_le same_decides f.fmax combinations (λ v m. (frequency v m).1))

    group_le_predicate : get_or c (group_set x (1 + k)) 0 ≤ get_or c x.own 0 / f.fmin
    group_le_predicate =
        (le-div_iff_mul-le group-form.some).1
        (rw (located.own, size-of-group, ← combinations-length, mul_comm _ f.fmin)
        (occurrences_ge same_decides f.fmin combinations (λ v m. (frequency v m).0)))

    group_le_roles : get_or c (group_set x (1 + k)) 0 ≤ product_over (λ s. get_or c s 0) (group_roles x (1 + k))
    group_le_roles =
        let js : List ℕ = columns_in x (1 + k) in
        rw (size-of-group, group-roles x (1 + k))
        (le_trans (combination_le_product rows js)
        (product_le c (column_size rows) (λ j. x.roles + j) js (λ j m. le_of_eq (sym (located.role j (column-below x (1 + k) m))))))

    group-limits : Satisfies (limits_of_group x (1 + k) f) c
    unfolding limits_of_group value_of
    group-limits =
        each-cons (Holds c) predicate_le_group (each-cons (Holds c) group_le_predicate (each-cons (Holds c) group_le_roles (each_nil (Holds c))))

  -- A part has no more combinations than its set has members
  abbrev Measured : Part → Type 0
  Measured b = combination_size rows (columns_of x b) ≤ get_or c b.own 0

  group_measured : (g : ℕ) → Between 1 g (length p.groups) → Measured (group_part x g)
  unfolding group_part
  group_measured g h = rw (columns-of-group x g) (le_of_eq (sym (located.group g h)))

  role_measured : (j : ℕ) → j < length p.roles → Measured (role_part (x.roles + j))
  unfolding role_part
  role_measured j h = rw add-sub_cancel_left (le_trans (combination_le_column rows j) (le_of_eq (sym (located.role j h))))

  part_measured : (b : Part) → b ∈ parts x → Measured b
  unfolding parts
  part_measured b m = ⊎_elim group role (Memᴰ.append_cases (map (group_part x) (up_from 1 (length p.groups))) m)
    where
      group : b ∈ map (group_part x) (up_from 1 (length p.groups)) → Measured b
      group k =
          let r = Memᴰ.of_map (group_part x) (up_from 1 (length p.groups)) k in
          rw (← r.2) (group_measured r.0 (omega (arith, of-up_from 1 (length p.groups) r.1)))

      role : b ∈ map role_part (group_roles x 0) → Measured b
      role k =
          let r = Memᴰ.of_map role_part (group_roles x 0) k in
          let u = of_ungrouped x r.1 in
          rw (← r.2, u.2) (role_measured u.0 u.1)

  predicate_le_parts : get_or c x.own 0 ≤ product_over (λ s. get_or c s 0) (map (λ (b : Part). b.own) (parts x))
  predicate_le_parts =
      rw (located.own, ← (length-distinct-iff same_decides rows).1 (constraint (M5) meets.k5))
      (le_trans (distinct_le_product_over same_decides same_decides (λ b. combination (columns_of x b)) (parts x) rows together)
      (product_le c _ (λ b. b.own) (parts x) part_measured))
    where
      wide : Rows p rows
      wide = each2_at _ shaped.preds found.predicate_at found.rows_at

      together : (a b : List ℕ) → a ∈ rows → b ∈ rows
          → ((t : Part) → t ∈ parts x → combination (columns_of x t) a ≡ combination (columns_of x t) b) → a ≡ b
      together a b m l h =
          rows_agree (length p.roles) rows wide a b m l
          (λ j i. let r = below_at p.roles j i in let t = covered x r.1
          (role-form r.1).group in combination_agree (columns_of x t.0) a b (h t.0 t.1) t.2)

  pub predicate-limits : Satisfies (limits_of_pred x) c
  unfolding limits_of_pred limit_of_rows value_of
  predicate-limits = each_append (Holds c) _ _ (each_append (Holds c) _ _
      (λ l m. let r = of-flatten-map_from (limits_of_role x) x.roles p.roles m in role-limits r.2 l r.3)
      (λ l m. let r = of-flatten-map_from (limits_of_group x) 1 p.groups m in group-limits r.2 l r.3))
      (each-cons (Holds c) predicate_le_parts (each_nil (Holds c)))
