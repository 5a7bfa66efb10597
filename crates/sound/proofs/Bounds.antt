-- The sizes of a population that meets the constraints are between the lower and the starting upper bounds.
use Prim.Native.Nat.{ℕ, suc, ◌+◌, ◌-◌, ◌≤◌, min}
use Rattle.std.specs.Prelude.{◌≡◌, Bool, List, [], ◌∷◌, ◌++◌, map}
use Rattle.std.proofs.Math.Path.{refl}
use Rattle.std.proofs.Common.{sym, arith}
use Rattle.std.proofs.Math.Bool.{true, false}
use Rattle.std.proofs.Math.Nat.{suc_inj, le-min}
use Rattle.std.proofs.Math.ListN.{length}
use Rattle.counting.specs.Lists.{up_from, column}
use Rattle.counting.specs.Terms.{◌∈◌, NoRepeats}
use Rattle.counting.proofs.Laws.Members.{no_repeats_le}
use Rattle.counting.proofs.Laws.Range.{in_up_from, length-up_from}
use Rattle.counting.proofs.Laws.Instances.{eqb_decides, same_decides}
use Rattle.counting.proofs.Laws.Index.{at_in, at_map, at-unique, of-map_from, of-flatten-zip_with}
use Rattle.counting.specs.Index.{At, first, later}
use Rattle.fixpoint.specs.Notions.{◌≼◌}
use Rattle.fixpoint.proofs.Laws.Order.{≼_refl, ≼_cons, ≼_tail}
use Rattle.orm.specs.Diagram.{ObjectType, Role, Predicate, Diagram, all_roles, all_groups}
use Rattle.orm.specs.Supertypes.{has_range}
use Rattle.orm.specs.Sets.{lower, upper_of_type, upper_of_role, upper}
use Rattle.orm.specs.Population.{Population}
use Rattle.orm.specs.Constraints.{Played, member_count, Grouped, played, grouped, all_played, all_grouped, sizes}
use Rattle.orm.specs.Meaning.{Between, M1, M2, M3, M6, M11, Meets, Shaped}
use Rattle.orm.specs.WellFormed.{WellFormed}
use Rattle.orm.proofs.Laws.Decided.{has_range_decides}
use Rattle.sound.proofs.Counts.{distinct-between}
use Rattle.sound.proofs.Each.{each-type, each-pred}
use Rattle.sound.proofs.Positions.{grouped_size, roles-played, preds-length, roles-length, groups-length}

-- ---- lists of sizes in order

≼_append : (a b : List ℕ) {c d : List ℕ} → a ≼ b → c ≼ d → (a ++ c) ≼ (b ++ d)
≼_append [] [] p q = q
≼_append [] (y ∷ ys) p q = absurd (omega (arith, p.sized))
≼_append (x ∷ xs) [] p q = absurd (omega (arith, p.sized))
≼_append (x ∷ xs) (y ∷ ys) p q = ≼_cons (p.entry 0) (≼_append xs ys (≼_tail p) q)

≼_map : {A B : Type 0} (f : A → ℕ) (g : B → ℕ) (xs : List A) (ys : List B) → length xs ≡ length ys
    → ((i : ℕ) (a : A) (b : B) → At a xs i → At b ys i → f a ≤ g b) → map f xs ≼ map g ys
≼_map f g [] [] e h = ≼_refl []
≼_map f g [] (y ∷ ys) e h = absurd (omega arith)
≼_map f g (x ∷ xs) [] e h = absurd (omega arith)
≼_map f g (x ∷ xs) (y ∷ ys) e h =
    ≼_cons (h 0 x y (first refl) (first refl)) (≼_map f g xs ys (suc_inj e) (λ i a b k l. h (suc i) a b (later k) (later l)))

-- ---- one set

-- different numbers from `low` to `high`
differ-between : (low high : ℕ) (vs : List ℕ) → NoRepeats vs → ((v : ℕ) → v ∈ vs → Between low v high) → length vs ≤ high - low + 1
differ-between low high vs n h =
    let e = length-up_from low (high - low + 1) in
    omega (arith, e, no_repeats_le vs (up_from low (high - low + 1)) n (λ v m. let b = h v m in in_up_from low (high - low + 1) b.0 (omega arith)))

module _ (d : Diagram) (o : Population) where
  type-upper : (n : ℕ) (t : ObjectType) (vs : List ℕ) → M1 n t vs → M2 n t vs → M3 n t vs → length vs ≤ upper_of_type t
  unfolding upper_of_type
  type-upper n t vs m1 m2 m3 = go (has_range t) refl
    where
      go : (b : Bool) → has_range t ≡ b → length vs ≤ elim b [ true ↦ min t.max (t.last - t.first + 1) | false ↦ t.max ]
      go true e = le-min m2.1 (differ-between t.first t.last vs m1 (m3 ((has_range_decides t).0 e)))
      go false e = m2.1

module _ (d : Diagram) (o : Population) (form : WellFormed d) (shaped : Shaped d o) (meets : Meets d o) where
  rows-between : {i : ℕ} {p : Predicate} {rows : List (List ℕ)} → At p d.preds i → At rows o.preds i → Between 1 (length rows) 4096
  rows-between {p = p} a b =
      let f = form.preds p (at_in a) in
      let k = each-pred (M6) meets.k6 a b in
      (omega (arith, f.some), omega (arith, f.most))

  played-between : (x : Played) → x ∈ all_played d o → Between 1 (member_count x) 4096
  unfolding all_played played column
  played-between x m =
      let z = of-flatten-zip_with played d.preds o.preds m in
      let r = of-map_from _ 0 z.1.roles z.5 in
      rw r.3 (distinct-between eqb_decides _ z.2 4096 (rows-between z.3 z.4))

  -- A role and its members, by their place: K11
  role-between : {i : ℕ} {r : Role} {x : Played} → At r (all_roles d) i → At x (all_played d o) i → Between r.rmin (member_count x) (upper_of_role r)
  unfolding all_played upper_of_role
  role-between {r = r} {x = x} a b =
      let same-role : x.role ≡ r = at-unique (rw (roles-played d o shaped) at (at_map (λ (y : Played). y.role) b)) a in
      let z = of-flatten-zip_with played d.preds o.preds (at_in b) in
      let (least, most) = each-pred M11 meets.k11 z.3 z.4 x z.5 in
      rw (← same-role) (least, le-min (played-between x (at_in b)).1 most)

  grouped-between : (x : Grouped) → x ∈ all_grouped d o → Between 1 (grouped_size x) 4096
  unfolding all_grouped grouped
  grouped-between x m =
      let z = of-flatten-zip_with grouped d.preds o.preds m in
      let r = of-map_from _ 1 z.1.groups z.5 in
      rw r.3 (distinct-between same_decides _ z.2 4096 (rows-between z.3 z.4))

  pub lower_≼ : lower d ≼ sizes d o
  unfolding lower sizes
  lower_≼ =
      ≼_append _ _ (≼_append _ _ (≼_append _ _
      (≼_map _ _ d.types o.types (sym shaped.types) (λ i t vs a b. (each-type (M2) 1 meets.k2 a b).0))
      (≼_map _ _ d.preds o.preds (sym (preds-length d o shaped)) (λ i p rows a b. (each-pred (M6) meets.k6 a b).0)))
      (≼_map _ _ (all_roles d) (all_played d o) (sym (roles-length d o shaped)) (λ i r x a b. (role-between a b).0)))
      (≼_map _ _ (all_groups d) (all_grouped d o) (sym (groups-length d o shaped)) (λ i f x a b. (grouped-between x (at_in b)).0))

  pub ≼_upper : sizes d o ≼ upper d
  unfolding upper sizes
  ≼_upper =
      ≼_append _ _ (≼_append _ _ (≼_append _ _
      (≼_map _ _ o.types d.types shaped.types
      (λ i vs t b a. type-upper d o (1 + i) t vs (each-type (M1) 1 meets.k1 a b) (each-type (M2) 1 meets.k2 a b)
      (each-type (M3) 1 meets.k3 a b)))
      (≼_map _ _ o.preds d.preds (preds-length d o shaped) (λ i rows p b a. (each-pred (M6) meets.k6 a b).1)))
      (≼_map _ _ (all_played d o) (all_roles d) (roles-length d o shaped) (λ i x r b a. (role-between a b).1)))
      (≼_map _ _ (all_grouped d o) (all_groups d) (groups-length d o shaped) (λ i x f b a. (grouped-between x (at_in b)).1))
