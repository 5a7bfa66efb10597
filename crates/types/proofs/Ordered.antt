-- Members in order: the order changes nothing that is told of them, and the first and the last tell K3.
use Prim.Native.Nat.{ℕ, ◌-◌, ◌≤◌, ◌<◌}
use native.Mathlib.Omega.{arith}
use mathlib.Core.Path.{◌≡◌, refl, ap, ap₂, ◌∙◌}
use mathlib.Core.Logic.Iff
use mathlib.Core.Bool.{Bool, true, false, not, ◌&&◌, and-eq-true_iff}
use mathlib.Core.List.{List, [], ◌∷◌, ◌++◌, map, flatten}
use lib.Dec.{eqb, ltb, leb}
use lib.ListN.{length, get_or, drop}
use borrow.Author.Tests.{leb-true, le-leb, ltb-true, ltb-false, not-true, not-false}
use Rattle.counting.specs.Terms.{Each}
use Rattle.counting.specs.Distinct.{all, member, within}
use Rattle.counting.proofs.Laws.Members.{get_or_in}
use Rattle.counting.proofs.Laws.Index.{in_at, at-get_or, at-below}
use Rattle.counting.proofs.Laws.Distinct.{bool_ext, all_decides}
use Rattle.orm.specs.Diagram.{ObjectType, Diagram, is_mandatory, must_play}
use Rattle.orm.specs.Supertypes.{has_range}
use Rattle.orm.specs.Form.{type_of, ◌to◌, in_range}
use Rattle.orm.specs.Population.{Population}
use Rattle.orm.specs.Meaning.{Between}
use Rattle.orm.specs.Constraints.{played, values_in_roles, all_played, K3, K10}
use Rattle.orm.proofs.Laws.Decided.{in_range_decides}
use Rattle.faults.specs.Faults.{unless, given, faults_of}
use Rattle.faults.specs.Passes.{belongs, fills, limited, subtype_faults, role_faults, roles_faults, member_faults}
use Rattle.sorting.specs.Order.{sorted}
use Rattle.sorting.proofs.Sorted.{sorted-same, member-sorted}
use Rattle.sorting.proofs.Runs.{and_turn}
use Rattle.sorting.specs.Rising.{Rising}
use Rattle.sorting.proofs.Rising.{rising-at}

module _ (ms : List ℕ) where
  within-order : (vs : List ℕ) → within eqb vs (sorted ltb ms) ≡ within eqb vs ms
  unfolding within
  within-order [] = refl
  within-order (v ∷ vs) = ap₂ {C = Bool} (λ a b. a && b) (member-sorted eqb ltb v ms) (within-order vs)

  order-within : (vs : List ℕ) → within eqb (sorted ltb ms) vs ≡ within eqb ms vs
  unfolding within
  order-within vs =
      sorted-same (λ (l : List ℕ). within eqb l vs) (λ x b. member eqb x vs && b) (λ x xs. refl) (λ x y b. and_turn (member eqb x vs) (member eqb y vs) b) ltb ms

  order-all : (p : ℕ → Bool) → all p (sorted ltb ms) ≡ all p ms
  unfolding all
  order-all p = sorted-same (all p) (λ x b. p x && b) (λ x xs. refl) (λ x y b. and_turn (p x) (p y) b) ltb ms

  -- What is told of a type's members does not depend on their order
  pub members-order : (d : Diagram) (o : Population) (n : ℕ) (t : ObjectType) → member_faults d o n t (sorted ltb ms) ≡ member_faults d o n t ms
  unfolding member_faults subtype_faults roles_faults role_faults belongs fills K3 K10
  members-order d o n t i =
      unless (elim (has_range t) [ true ↦ order-all (in_range (t.first to t.last)) i | false ↦ true ]) 3 n
      ++ faults_of (λ m u vs. given (eqb u.super n) (unless (within-order vs i) 4 m)) 1 d.types o.types
      ++ faults_of (λ m p rows. flatten (map (role-order m i) (played p rows))) 1 d.preds o.preds
      ++ unless (elim (must_play d n t) [ true ↦ order-within (values_in_roles n (all_played d o)) i | false ↦ true ]) 10 n
    where
      role-order : (m : ℕ) → role_faults n (sorted ltb ms) m ≡ role_faults n ms m
      role-order m i x =
          given (eqb x.role.type n)
          (unless (within-order x.values i) 7 m
          ++ given (within-order x.values i)
          (unless (elim (is_mandatory x.role) [ true ↦ order-within x.values i | false ↦ true ]) 8 m ++ unless (limited x) 11 m))

-- ---- the first and the last

module _ (low high : ℕ) (ws : List ℕ) (r : Rising ws) where
  in_turn_lem : (i j : ℕ) → i ≤ j → j < length ws → get_or ws i 0 ≤ get_or ws j 0
  in_turn_lem i j h l = go (ltb i j) refl
    where
      go : (b : Bool) → ltb i j ≡ b → get_or ws i 0 ≤ get_or ws j 0
      go true q = omega (arith, rising-at ws i j r (ltb-true i j q) l)
      go false q = let e : i ≡ j = omega (arith, ltb-false i j q) in omega (arith, ap (λ (k : ℕ). get_or ws k 0) e)

  ends-tell : 0 < length ws → (leb low (get_or ws 0 0) && leb (get_or ws (length ws - 1) 0) high) ≡ all (in_range (low to high)) ws
  ends-tell h = bool_ext _ _ (Iff.trans (and-eq-true_iff _ _) (Iff.trans (each-inside, ends-inside) (Iff.symm (all_decides _ (λ n. in_range_decides low n high) ws))))
    where
      each-inside : (leb low (get_or ws 0 0) ≡ true) × (leb (get_or ws (length ws - 1) 0) high ≡ true) → Each (λ (x : ℕ). Between low x high) ws
      each-inside (a, b) x m =
          let (i, at) = in_at m in
          let l : i < length ws = at-below at in
          let e : get_or ws i 0 ≡ x = at-get_or 0 at in (
            omega (arith, leb-true low (get_or ws 0 0) a, in_turn_lem 0 i (omega arith) l),
            omega (arith, leb-true (get_or ws (length ws - 1) 0) high b, in_turn_lem i (length ws - 1) (omega arith) (omega arith)),
          )

      ends-inside : Each (λ (x : ℕ). Between low x high) ws → (leb low (get_or ws 0 0) ≡ true) × (leb (get_or ws (length ws - 1) 0) high ≡ true)
      ends-inside e = (le-leb _ _ (e _ (get_or_in ws 0 0 h)).0, le-leb _ _ (e _ (get_or_in ws (length ws - 1) 0 (omega arith))).1)

module _ (t : List ℕ) (line : ℕ) (ws : List ℕ) {ranged : Bool} (q : ranged ≡ has_range (type_of (drop line t))) where
  pub range_none : not ranged ≡ true → true ≡ K3 (type_of (drop line t)) ws
  unfolding K3
  range_none n = rw (← q, not-true ranged n, K3)

  pub range_empty : length ws ≡ 0 → true ≡ K3 (type_of (drop line t)) ws
  unfolding K3 all
  range_empty e = go ws e (has_range (type_of (drop line t)))
    where
      go : (l : List ℕ) → length l ≡ 0 → (b : Bool)
          → true ≡ elim b [ true ↦ all (in_range ((type_of (drop line t)).first to (type_of (drop line t)).last)) l | false ↦ true ]
      go [] e true = refl
      go [] e false = refl
      go (x ∷ l) e b = absurd (omega arith)

  pub range_ends : {b : Bool} {low high first last : ℕ} → not ranged ≡ false → ¬ (length ws ≡ 0) → Rising ws
      → low ≡ get_or (drop line t) 2 0 → high ≡ get_or (drop line t) 3 0 → first ≡ get_or ws 0 0 → last ≡ get_or ws (length ws - 1) 0
      → b ≡ (leb low first && leb last high) → b ≡ K3 (type_of (drop line t)) ws
  unfolding K3
  range_ends n h r l g f e p =
      rw (← q, not-false ranged n, K3) (p ∙ rw (l, g, f, e) (ends-tell _ _ ws r (omega arith)))
