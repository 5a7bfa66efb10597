-- The rows of a predicate: K5 to K8, and the sizes of its roles.
use Rattle.std.specs.Prelude.{ℕ, ◌+◌, ◌<◌, ◌≡◌, refl, List, map, eqb, length, get_or}
use Rattle.std.proofs.Common.{sym, ap, ◌∙◌, zero-add, lt_of_lt_of_le, arith}
use mathlib.Core.List.Memᴰ
use Rattle.std.proofs.lemmas.Simd.{map-map}
use Rattle.std.proofs.Math.ListN.{length-map}
use Rattle.counting.proofs.Laws.Classes.{Classes, classes_distinct}
use Rattle.counting.specs.Distinct.{distinct}
use Rattle.counting.proofs.Laws.Index.{at-get_or, at_in, at-map_from, of-map_from}
use Rattle.counting.specs.Index.{At}
use Rattle.counting.proofs.Laws.Instances.{eqb_decides}
use Rattle.counting.specs.Lists.{column, map_from, up_from}
use Rattle.counting.proofs.Laws.Maps.{map_congr, map_from_congr}
use Rattle.counting.proofs.Laws.Range.{in_below-iff, length-up_from, map-below_no_repeats}
use Rattle.counting.specs.Terms.{◌∈◌, ◌⊆◌}
use Rattle.orm.specs.Constraints.{Played, member_count, members_of, played}
use Rattle.orm.specs.Diagram.{Diagram, Role, index}
use Rattle.orm.specs.Meaning.{Between, M5, M6, M7, M8, M11}
use Rattle.orm.specs.Populate.{index_in_row, member_of, population, row, rows, size, type_values}
use Rattle.orm.specs.Sets.{Part, Placed, group_part, parts, placed, role_part}
use Rattle.orm.specs.WellFormed.{RoleForm}
use Rattle.complete.proofs.Indices.{index_below, index-onto, part-below, part_tuple_lem, part_index, parts-differ, tuple_differ}
use Rattle.complete.proofs.Members.{member-differ, member_in_type, member-onto}
use Rattle.complete.proofs.Parts.{each_part, of-group_roles}
use Rattle.complete.specs.Solved.{Solved}
use Rattle.complete.proofs.Solved.{own-least, own-most, pred-form, role-least, role_mandatory, role-most, role-positive, role-type}
use Rattle.complete.proofs.Types.{members-of}

module _ (d : Diagram) (c : List ℕ) (x : Placed) where
  -- In row i, the value of role j, which is `a`
  abbrev pub value_in : ℕ → Role → ℕ → ℕ
  value_in j a i = member_of d c (x.roles + j) a (index_in_row c x i (x.roles + j))

  pub value_in_lem : {j : ℕ} {a : Role} → At a x.predicate.roles j → (i : ℕ) → get_or (row d c x i) j 0 ≡ value_in j a i
  unfolding row
  value_in_lem h i = at-get_or {A = ℕ} 0 (at-map_from (λ (p : ℕ) (r : Role). member_of d c p r (index_in_row c x i p)) x.roles h refl)

  abbrev pub played_in : ℕ → Role → Played
  played_in j a = record { role = a; values = map (value_in j a) (up_from 0 (size c x.own)) }

  pub played-rows : played x.predicate (rows d c x) ≡ map_from played_in 0 x.predicate.roles
  unfolding played rows column
  played-rows =
      map_from_congr _ played_in 0 0 x.predicate.roles
      (λ j a h. rw (zero-add j, map-map)
      (ap (λ vs. record { role = a; values = vs }) (map_congr _ _ (up_from 0 (size c x.own)) (λ i m. value_in_lem h i))))

module _ {d : Diagram} {c : List ℕ} (s : Solved d c) {x : Placed} (m : x ∈ placed d) where
  -- ---- a role

  module _ {j : ℕ} {a : Role} (h : At a x.predicate.roles j) where
    player : RoleForm (length d.types) (length x.predicate.groups) a
    player = (pred-form s m).roles a (at_in h)

    index_in_type : (i : ℕ) → i < size c x.own → index_in_row c x i (x.roles + j) < size c (index a.type)
    index_in_type i l = lt_of_lt_of_le (index_below s m h i l) (role-type s m h)

    -- Equal values in two rows are by equal indices
    pub value-differ : (i k : ℕ) → i < size c x.own → k < size c x.own → value_in d c x j a i ≡ value_in d c x j a k
        → index_in_row c x i (x.roles + j) ≡ index_in_row c x k (x.roles + j)
    value-differ i k l n e = member-differ d c (x.roles + j) a _ _ (index_in_type i l) (index_in_type k n) e

    role_classes : Classes (value_in d c x j a) (λ i. index_in_row c x i (x.roles + j)) (size c x.own) (size c (x.roles + j))
    role_classes =
        record { fine = value-differ; coarse = λ i k l n e. ap (member_of d c (x.roles + j) a) e; below = index_below s m h; onto = index-onto s m h }

    pub role-members : length (distinct eqb (played_in d c x j a).values) ≡ size c (x.roles + j)
    role-members = classes_distinct eqb_decides role_classes

    members : members_of (population d c) a.type ≡ type_values d c (index a.type)
    members = members-of d c a.type (omega (arith, player.player))

    values_in-type : (played_in d c x j a).values ⊆ members_of (population d c) a.type
    values_in-type v n =
        let (i, l, e) = Memᴰ.of_map (value_in d c x j a) (up_from 0 (size c x.own)) n in
        rw (members, ← e) (member_in_type d c (x.roles + j) a _ (lt_of_lt_of_le (role-positive s m h) (role-type s m h)))

    type_in_values : a.mand ≡ 1 → members_of (population d c) a.type ⊆ (played_in d c x j a).values
    type_in_values mand v n =
        let (k, l, e) = member-onto d c (x.roles + j) a v (rw members at n) in
        let (i, l', e') = index-onto s m h k (lt_of_lt_of_le l (role_mandatory s m h mand)) in
        Memᴰ.cast (sym e ∙ ap (member_of d c (x.roles + j) a) (sym e')) (Memᴰ.map (value_in d c x j a) ((in_below-iff (size c x.own) i).1 l'))

  -- A statement of each role with its values
  each-played : (P : Played → Type 0) → ((j : ℕ) (a : Role) → At a x.predicate.roles j → P (played_in d c x j a)) → (y : Played)
      → y ∈ played x.predicate (rows d c x) → P y
  each-played P h y n =
      let (j, a, l, e) = of-map_from (played_in d c x) 0 x.predicate.roles (rw played-rows at n) in
      rw (e, zero-add j) (h j a l)

  pub k7 : M7 (population d c) x.predicate (rows d c x)
  k7 = each-played (λ y. y.values ⊆ members_of (population d c) y.role.type) (λ j a h. values_in-type h)

  pub k8 : M8 (population d c) x.predicate (rows d c x)
  k8 = each-played (λ y. y.role.mand ≡ 1 → members_of (population d c) y.role.type ⊆ y.values) (λ j a h. type_in_values h)

  pub k11 : M11 x.predicate (rows d c x)
  k11 = each-played (λ y. Between y.role.rmin (member_count y) y.role.rmax) (λ j a h. rw (role-members h) (role-least s m h, role-most s m h))

  -- ---- rows

  pub rows-length : length (rows d c x) ≡ size c x.own
  unfolding rows
  rows-length = length-map (up_from 0 (size c x.own)) (row d c x) ∙ length-up_from 0 _

  pub k6 : M6 x.predicate (rows d c x)
  k6 = rw rows-length (own-least s m, own-most s m)

  -- Rows that agree on a part's roles have the same tuple of that part
  pub same-part : (i j : ℕ) → i < size c x.own → j < size c x.own → {k : ℕ} {b : Part} → At b (parts x) k
      → ((p : ℕ) → p ∈ b.roles → index_in_row c x i p ≡ index_in_row c x j p) → part_index c x k i ≡ part_index c x k j
  same-part i j h l {b = b} n agree =
      tuple_differ s m n _ _ (part-below s m n i h) (part-below s m n j l)
      (sym (part_tuple_lem s m n i h) ∙ map_congr _ _ b.roles agree ∙ part_tuple_lem s m n j l)

  -- The role of a part by its number in the predicate
  part-role : (b : Part) → b ∈ parts x → (p : ℕ) → p ∈ b.roles → (j : ℕ) × (a : Role) × At a x.predicate.roles j × (p ≡ x.roles + j)
  unfolding group_part role_part
  part-role =
      each_part x _ (λ k f h p n. let (j, a, l, e, t) = of-group_roles x n in (j, a, l, e)) (λ j a h p n. (j, a, h, Memᴰ.eq_of_singleton n))

  rows-differ : (i j : ℕ) → i < size c x.own → j < size c x.own → row d c x i ≡ row d c x j → i ≡ j
  rows-differ i j h l e = parts-differ s m i j h l (λ k b n. same-part i j h l n (λ p o.
      let (q, a, n', e') = part-role b (at_in n) p o in
      rw e' (value-differ n' i j h l (sym (value_in_lem d c x n' i) ∙ ap (λ v. get_or v q 0) e ∙ value_in_lem d c x n' j))))

  pub k5 : M5 x.predicate (rows d c x)
  unfolding rows
  k5 = map-below_no_repeats (row d c x) (size c x.own) rows-differ
