-- The parts of a predicate, its groups and its ungrouped roles: their sizes fit the tuples made from them, and each role is in one part.
use Prim.Native.Nat.{ℕ, ◌+◌, ◌-◌, ◌≤◌, ◌<◌}
use Rattle.std.specs.Prelude.{◌≡◌, refl}
use Rattle.std.proofs.Math.Path.{sym, subst, subst₂}
use Rattle.std.proofs.Common.{ap, ◌∙◌, div-le_self, le_refl}
use Rattle.std.proofs.Math.Logic.{⊎_elim}
use mathlib.Core.List.Memᴰ
use mathlib.Core.List.Memᴰ.{head as here}
use mathlib.Core.List.{List, [], ◌∷◌, ◌++◌, map, flat_map, append-nil}
use Rattle.std.proofs.Math.Nat.{le_trans}
use Rattle.std.proofs.Math.Decide.{ℕ_discrete}
use native.Mathlib.Omega.{arith}
use borrow.Author.Tests.{eqb-true, eq-eqb}
use Rattle.std.proofs.Math.Dec.{eqb}
use Rattle.std.proofs.Math.ListN.{length}
use Rattle.counting.proofs.Laws.Index.{at-below, at_in, at-unique, below_at}
use Rattle.counting.specs.Index.{At}
use Rattle.counting.specs.Lists.{up_from}
use Rattle.counting.proofs.Laws.Maps.{flat_map_append, flat_map-map, flat_map-single}
use Rattle.counting.proofs.Laws.Sums.{product_over-map}
use Rattle.counting.proofs.Laws.Members.{each_nil, each-cons, each_map, no_repeats_append, no_repeats_flat_map}
use Rattle.counting.proofs.Laws.Range.{in_up_from, of-up_from, up_from_no_repeats}
use Rattle.counting.specs.Terms.{NoRepeats, ◌∈◌}
use Rattle.counting.specs.Totals.{product_over}
use Rattle.pairing.specs.Notions.{Fits}
use Rattle.orm.specs.Diagram.{Diagram, Frequency, Role}
use Rattle.orm.specs.Populate.{size}
use Rattle.orm.proofs.Laws.Select.{in_select, of-select, select_no_repeats}
use Rattle.orm.specs.Sets.{Part, Placed, group_part, group_roles, group_set, parts, placed, role_part, roles_in_group}
use Rattle.complete.specs.Solved.{Solved}
use Rattle.complete.proofs.Solved.{group-least, group-positive, group-product, own-positive, own-product, pred-form, role-group, role-own, role-positive}

-- ---- the roles of a group, and the roles in no group

module _ (x : Placed) where
  pub of-group_roles : {g p : ℕ} → p ∈ group_roles x g → (j : ℕ) × (r : Role) × At r x.predicate.roles j × (p ≡ x.roles + j) × (r.group ≡ g)
  unfolding group_roles roles_in_group
  of-group_roles {g} m =
      let (j, r, h, e, t) = of-select (λ r. eqb r.group g) x.roles x.predicate.roles m in (j, r, h, e, eqb-true r.group g t)

  pub in_group_roles : {j g : ℕ} {r : Role} → At r x.predicate.roles j → r.group ≡ g → x.roles + j ∈ group_roles x g
  unfolding group_roles roles_in_group
  in_group_roles {g = g} {r = r} h e = in_select (λ r. eqb r.group g) x.roles h (eq-eqb r.group g e)

  group-unique : (g h p : ℕ) → p ∈ group_roles x g → p ∈ group_roles x h → g ≡ h
  group-unique g h p m m' =
      let (j, r, n, e, t) = of-group_roles m in
      let (j', r', n', e', t') = of-group_roles m' in
      let same : j ≡ j' = omega arith in
      cc (at-unique n (rw (← same) at n'))

  -- All groups' roles, then those in no group
  numbers : List ℕ
  numbers = up_from 1 (length x.predicate.groups) ++ (0 ∷ [])

  parts-roles : flat_map (λ (b : Part). b.roles) (parts x) ≡ flat_map (group_roles x) numbers
  unfolding parts numbers group_part role_part flat_map
  parts-roles =
      simp (flat_map_append, flat_map-map)
      (ap (flat_map (group_roles x) (up_from 1 (length x.predicate.groups)) ++◌)
      (flat_map-single (group_roles x 0) ∙ sym (append-nil (group_roles x 0))))

  pub parts_no_repeats : NoRepeats (flat_map (λ (b : Part). b.roles) (parts x))
  unfolding group_roles roles_in_group numbers
  parts_no_repeats = rw parts-roles (no_repeats_flat_map (group_roles x) numbers different (λ g m. select_no_repeats _ _ _) group-unique)
    where
      n : ℕ
      n = length x.predicate.groups

      different : NoRepeats numbers
      different =
          no_repeats_append (up_from 1 n) (0 ∷ []) (up_from_no_repeats 1 n) (Memᴰ.not-nil, tt)
          (λ g h l. omega (arith, of-up_from 1 n h, Memᴰ.eq_of_singleton l))

  -- ---- what the parts are

  pub group_in-parts : {k : ℕ} {f : Frequency} → At f x.predicate.groups k → group_part x (1 + k) ∈ parts x
  unfolding parts
  group_in-parts {k} h =
      Memᴰ.append_left (map role_part (group_roles x 0)) (Memᴰ.map (group_part x) (in_up_from 1 _ (omega arith) (omega (arith, at-below h))))

  role_in_parts : {j : ℕ} {r : Role} → At r x.predicate.roles j → r.group ≡ 0 → role_part (x.roles + j) ∈ parts x
  unfolding parts
  role_in_parts h e = Memᴰ.append_right (map (group_part x) (up_from 1 (length x.predicate.groups))) (Memᴰ.map role_part (in_group_roles h e))

  -- A statement of each part
  pub each_part : (P : Part → Type 0) → ((k : ℕ) (f : Frequency) → At f x.predicate.groups k → P (group_part x (1 + k)))
      → ((j : ℕ) (r : Role) → At r x.predicate.roles j → P (role_part (x.roles + j))) → (b : Part) → b ∈ parts x → P b
  unfolding parts
  each_part P group role b m = ⊎_elim of_group of_role (Memᴰ.append_cases (map (group_part x) (up_from 1 (length x.predicate.groups))) m)
    where
      of_group : b ∈ map (group_part x) (up_from 1 (length x.predicate.groups)) → P b
      of_group l =
          let (g, n, e) = Memᴰ.of_map (group_part x) (up_from 1 (length x.predicate.groups)) l in
          let (low, high) = of-up_from 1 (length x.predicate.groups) n in
          let (f, h) = below_at x.predicate.groups (g - 1) (omega arith) in
          let same : 1 + (g - 1) ≡ g = omega arith in
          subst P (ap (group_part x) same ∙ e) (group (g - 1) f h)

      of_role : b ∈ map role_part (group_roles x 0) → P b
      of_role l =
          let (p, n, e) = Memᴰ.of_map role_part (group_roles x 0) l in
          let (j, r, h, same, t) = of-group_roles n in
          subst P (ap role_part (sym same) ∙ e) (role j r h)

module _ {d : Diagram} {c : List ℕ} (s : Solved d c) {x : Placed} (m : x ∈ placed d) where
  -- Each role is in a part
  pub role-part : {j : ℕ} {r : Role} → At r x.predicate.roles j → (b : Part) × (b ∈ parts x) × (x.roles + j ∈ b.roles)
  unfolding group_part role_part
  role-part {j} {r} h = go (ℕ_discrete r.group 0)
    where
      go : Dec (r.group ≡ 0) → (b : Part) × (b ∈ parts x) × (x.roles + j ∈ b.roles)
      go (yes e) = (role_part (x.roles + j), role_in_parts x h e, here refl)
      go (no n) =
          let k = r.group - 1 in
          let (f, l) = below_at x.predicate.groups k (omega (arith, ((pred-form s m).roles r (at_in h)).group)) in
          (group_part x (1 + k), group_in-parts x l, in_group_roles x h (omega arith))

  pub part-fits : (b : Part) → b ∈ parts x → Fits (size c b.own) (map (size c) b.roles)
  unfolding group_part role_part
  part-fits = each_part x _ of_group of_role
    where
      of_group : (k : ℕ) (f : Frequency) → At f x.predicate.groups k → Fits (size c (group_set x (1 + k))) (map (size c) (group_roles x (1 + k)))
      of_group k f h =
          let q = group_set x (1 + k) in
          record {
            some = group-positive s m h;
            positive = each_map (0 <◌) (size c) (group_roles x (1 + k)) (λ p l. let (j, r, n, e, t) = of-group_roles x l in rw e (role-positive s m n));
            small =
                each_map (◌≤ size c q) (size c) (group_roles x (1 + k))
                (λ p l. let (j, r, n, e, t) = of-group_roles x l in
                subst₂ (λ (u v : ℕ). size c u ≤ size c (group_set x v)) (sym e) t (role-group s m n (omega arith)));
            enough = rw (product_over-map (λ t. t) (size c) (group_roles x (1 + k))) (group-product s m h);
          }

      of_role : (j : ℕ) (r : Role) → At r x.predicate.roles j → Fits (size c (x.roles + j)) (size c (x.roles + j) ∷ [])
      of_role j r h =
          record {
            some = role-positive s m h;
            positive = each-cons (0 <◌) (role-positive s m h) (each_nil (0 <◌));
            small = each-cons (◌≤ size c (x.roles + j)) (le_refl _) (each_nil (◌≤ size c (x.roles + j)));
            enough = unfold product_over in omega arith;
          }

  pub rows_fit : Fits (size c x.own) (map (λ (b : Part). size c b.own) (parts x))
  unfolding group_part role_part
  rows_fit = record {
    some = own-positive s m;
    positive = each_map (0 <◌) (λ (b : Part). size c b.own) (parts x) (λ b l. (part-fits b l).some);
    small = each_map (◌≤ size c x.own) (λ (b : Part). size c b.own) (parts x) small;
    enough =
        rw (product_over-map (λ t. t) (λ (b : Part). size c b.own) (parts x))
        (rw (product_over-map (size c) (λ (b : Part). b.own) (parts x)) at (own-product s m));
  }
    where
      small : (b : Part) → b ∈ parts x → size c b.own ≤ size c x.own
      small = each_part x _ (λ k f h. le_trans (group-least s m h) (div-le_self _ _)) (λ j r h. role-own s m h)
