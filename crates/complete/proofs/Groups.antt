-- The groups of a predicate: K9, and their sizes.
use Rattle.std.specs.Prelude.{ℕ, ◌+◌, ◌*◌, ◌-◌, ◌/◌, ◌≤◌, ◌<◌, ◌≡◌, List, map, length}
use Rattle.std.proofs.Math.Path.{sym, ap, subst}
use Rattle.std.proofs.Common.{◌∙◌, le_trans, le-div_iff_mul-le, div-lt_iff_lt-mul, mul_comm, suc-mul, le_of_suc-le-suc, eqb-true, eq-eqb}
use mathlib.Core.List.Memᴰ
use Rattle.std.proofs.lemmas.Simd.{map-map}
use Rattle.std.proofs.Math.Nat.{zero-add}
use native.Mathlib.Omega.{arith}
use Rattle.std.proofs.Math.Dec.{eqb}
use Rattle.std.proofs.Math.ListN.{get_or}
use Rattle.counting.proofs.Laws.Classes.{Classes, classes_distinct, classes_occurrences}
use Rattle.counting.specs.Distinct.{distinct, occurrences}
use Rattle.counting.proofs.Laws.Index.{each-from-at, in_at, of-map_from}
use Rattle.counting.specs.Index.{At}
use Rattle.counting.proofs.Laws.Instances.{same_decides}
use Rattle.counting.specs.Lists.{combination, map_from, same, up_from}
use Rattle.counting.proofs.Laws.Maps.{map_congr, map_from_congr}
use Rattle.counting.proofs.Laws.Members.{map_agree}
use Rattle.counting.proofs.Laws.Range.{in_below-iff}
use Rattle.counting.specs.Terms.{◌∈◌}
use Rattle.pairing.specs.Notions.{EvenShare}
use Rattle.orm.specs.Constraints.{Grouped, grouped}
use Rattle.orm.specs.Diagram.{Diagram, Frequency, Role}
use Rattle.orm.specs.Meaning.{Between, M9}
use Rattle.orm.specs.Populate.{index_in_row, member_of, part_tuple, row, rows, size}
use Rattle.orm.proofs.Laws.Select.{in_select, of-select}
use Rattle.orm.specs.Sets.{Placed, group_part, group_roles, group_set, parts, placed, roles_in_group}
use Rattle.complete.proofs.Indices.{part-below, part-even, part-onto, part_tuple_lem, part_index}
use Rattle.complete.proofs.Parts.{group_in-parts, in_group_roles, of-group_roles}
use Rattle.complete.proofs.Rows.{value_in_lem, value-differ, same-part}
use Rattle.complete.specs.Solved.{Solved}
use Rattle.complete.proofs.Solved.{group-least, group-most, group-positive, pred-form}

-- The shares of r among q, rounded down or up, are between the frequencies
fmin-share : (r q f : ℕ) → 0 < q → 0 < f → q ≤ r / f → f ≤ r / q
fmin-share r q f hq hf h = (le-div_iff_mul-le hq).1 (rw mul_comm ((le-div_iff_mul-le hf).0 h))

share-fmax : (r q f : ℕ) → 0 < q → r ≤ f * q → (r + q - 1) / q ≤ f
share-fmax r q f hq h = le_of_suc-le-suc ((div-lt_iff_lt-mul hq).1 (omega (arith, suc-mul f q)))

module _ (d : Diagram) (c : List ℕ) (x : Placed) where
  -- In row i, the combination of the group with a number
  abbrev pub combination_in : ℕ → ℕ → List ℕ
  combination_in g i = combination (roles_in_group g 0 x.predicate.roles) (row d c x i)

  abbrev pub grouped_in : ℕ → Frequency → Grouped
  grouped_in g f = record { frequency = f; combinations = map (combination_in g) (up_from 0 (size c x.own)) }

  pub grouped-rows : grouped x.predicate (rows d c x) ≡ map_from grouped_in 1 x.predicate.groups
  unfolding grouped rows
  grouped-rows = map_from_congr _ grouped_in 1 1 x.predicate.groups (λ k f h. rw map-map)

module _ {d : Diagram} {c : List ℕ} (s : Solved d c) {x : Placed} (m : x ∈ placed d) where
  module _ {k : ℕ} {f : Frequency} (h : At f x.predicate.groups k) where
    -- The group's number among the parts
    group-place : (n : ℕ) × At (group_part x (1 + k)) (parts x) n
    group-place = in_at (group_in-parts x h)

    columns : List ℕ
    columns = roles_in_group (1 + k) 0 x.predicate.roles

    -- A column of the group, as a role of the group
    of-columns : (j : ℕ) → j ∈ columns → (a : Role) × At a x.predicate.roles j × (x.roles + j ∈ group_roles x (1 + k))
    unfolding columns roles_in_group
    of-columns j n =
        let (i, a, l, e, t) = of-select _ 0 x.predicate.roles n in
        let o = in_group_roles x l (eqb-true a.group (1 + k) t) in
        let e' : i ≡ j = omega arith in
        (a, subst (λ (q : ℕ). At a x.predicate.roles q) e' l, subst (λ (q : ℕ). x.roles + q ∈ group_roles x (1 + k)) e' o)

    in_columns : (p : ℕ) → p ∈ group_roles x (1 + k) → (j : ℕ) × (a : Role) × At a x.predicate.roles j × (p ≡ x.roles + j) × (j ∈ columns)
    unfolding columns roles_in_group
    in_columns p n =
        let (j, a, l, e, t) = of-group_roles x n in
        (j, a, l, e, rw zero-add at (in_select (λ r. eqb r.group (1 + k)) 0 l (eq-eqb a.group (1 + k) t)))

    -- Two rows have the same combination where they have the same tuple of the group
    combination-fine : (i j : ℕ) → i < size c x.own → j < size c x.own → combination_in d c x (1 + k) i ≡ combination_in d c x (1 + k) j
        → part_index c x group-place.0 i ≡ part_index c x group-place.0 j
    unfolding group_part combination columns
    combination-fine i j l n e = same-part s m i j l n group-place.1 λ p o.
        let (q, a, o', e', w) = in_columns p o in
        let agree : get_or (row d c x i) q 0 ≡ get_or (row d c x j) q 0 = map_agree _ _ e w in
        rw e' (value-differ s m o' i j l n (sym (value_in_lem d c x o' i) ∙ agree ∙ value_in_lem d c x o' j))

    combination-coarse : (i j : ℕ) → i < size c x.own → j < size c x.own → part_index c x group-place.0 i ≡ part_index c x group-place.0 j
        → combination_in d c x (1 + k) i ≡ combination_in d c x (1 + k) j
    unfolding group_part combination columns
    combination-coarse i j l n e = map_congr _ _ columns λ q w.
        let (a, o, w') = of-columns q w in
        let agree : index_in_row c x i (x.roles + q) ≡ index_in_row c x j (x.roles + q) =
        map_agree _ _
        (part_tuple_lem s m group-place.1 i l ∙ ap (part_tuple c (group_part x (1 + k))) e ∙ sym (part_tuple_lem s m group-place.1 j n)) w' in
        value_in_lem d c x o i ∙ ap (member_of d c (x.roles + q) a) agree ∙ sym (value_in_lem d c x o j)

    group_classes : Classes (combination_in d c x (1 + k)) (part_index c x group-place.0) (size c x.own) (size c (group_set x (1 + k)))
    unfolding group_part
    group_classes =
        record {
          fine = combination-fine;
          coarse = combination-coarse;
          below = part-below s m group-place.1;
          onto = part-onto s m group-place.1;
        }

    pub group-members : length (distinct same (grouped_in d c x (1 + k) f).combinations) ≡ size c (group_set x (1 + k))
    group-members = classes_distinct same_decides group_classes

    -- Each combination stands in an even share of the rows
    combination-share : (i : ℕ) → i < size c x.own
        → EvenShare (size c x.own) (size c (group_set x (1 + k)))
        (occurrences same (combination_in d c x (1 + k) i) (grouped_in d c x (1 + k) f).combinations)
    unfolding group_part
    combination-share i l =
        rw (classes_occurrences same_decides group_classes i l) (part-even s m group-place.1 _ (part-below s m group-place.1 i l))

    combination-often : (i : ℕ) → i < size c x.own
        → Between f.fmin (occurrences same (combination_in d c x (1 + k) i) (grouped_in d c x (1 + k) f).combinations) f.fmax
    combination-often i l =
        let share = combination-share i l in
        let q⁺ = group-positive s m h in
        let fmin⁺ = (each-from-at _ 1 (pred-form s m).groups h).some in (
          le_trans (fmin-share _ _ f.fmin q⁺ fmin⁺ (group-least s m h)) share.at_least,
          le_trans share.at_most (share-fmax _ _ f.fmax q⁺ (group-most s m h)),
        )

  -- A statement of each group with its combinations
  each-grouped : (P : Grouped → Type 0) → ((k : ℕ) (f : Frequency) → At f x.predicate.groups k → P (grouped_in d c x (1 + k) f)) → (y : Grouped)
      → y ∈ grouped x.predicate (rows d c x) → P y
  each-grouped P h y n =
      let (k, f, l, e) = of-map_from (grouped_in d c x) 1 x.predicate.groups (rw grouped-rows at n) in
      rw e (h k f l)

  pub k9 : M9 x.predicate (rows d c x)
  k9 =
      each-grouped
      (λ y. (v : List ℕ) → v ∈ y.combinations → Between y.frequency.fmin (occurrences same v y.combinations) y.frequency.fmax) often
    where
      often : (k : ℕ) (f : Frequency) → At f x.predicate.groups k → (v : List ℕ) → v ∈ (grouped_in d c x (1 + k) f).combinations
          → Between f.fmin (occurrences same v (grouped_in d c x (1 + k) f).combinations) f.fmax
      often k f h v o =
          let (i, l, e) = Memᴰ.of_map (combination_in d c x (1 + k)) (up_from 0 (size c x.own)) o in
          rw (← e) (combination-often h i ((in_below-iff (size c x.own) i).0 l))
