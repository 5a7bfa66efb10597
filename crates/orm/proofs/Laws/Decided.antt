-- The tests of `Constraints` decide the propositions of `Meaning`.
use Rattle.std.specs.Prelude.{ℕ, suc, ◌+◌, ◌≤◌, ◌≡◌, refl, ◌↔◌, ◌⊎◌, Bool, true, false, ◌||◌, eqb, leb, length}
use Rattle.std.proofs.Common.{ap, subst, ◌∙◌, inl, inr, ⊎_elim, arith, leb-true, le-leb}
use Rattle.std.proofs.Math.Logic.Iff
use Rattle.std.proofs.lemmas.Bool.{false≢true}
use Rattle.std.proofs.Math.Bool.{and-eq-true_iff}
use mathlib.Mathlib.Data.Bool.Basic.{not_iff_not}
use Rattle.std.proofs.Math.Option.{Option, none, some}
use mathlib.Core.List.Memᴰ
use mathlib.Core.List.Memᴰ.{head as here}
use mathlib.Core.List.Memᴰ.{tail as there}
use mathlib.Core.List.{List, [], ◌∷◌, ◌++◌, map}
use Rattle.counting.specs.Distinct.{all, within}
use Rattle.counting.specs.Terms.{◌∈◌}
use Rattle.counting.proofs.Laws.Distinct.{all_decides, member_decides, within_decides, all_differ_decides}
use Rattle.counting.proofs.Laws.Instances.{eqb_decides, same_decides}
use Rattle.orm.specs.Diagram.{ObjectType, Role, Predicate, Diagram, is_root, is_independent, is_mandatory, plays, must_play, all_roles}
use Rattle.orm.specs.Supertypes.{has_range}
use Rattle.orm.specs.Form.{◌to◌, in_range}
use Rattle.orm.specs.Population.{Population}
use Rattle.orm.specs.Constraints.{Played, played, grouped, all_played, members_of, values_in_roles, each_type, each_pred, member_count, K1, K2, K3, K4, K5, K6, K7, K8, K9, K10, K11, constraints, Answer, valid, breaks, first_false, first_broken, answer}
use Rattle.orm.specs.Meaning.{Between, EachType, EachPred, InRoleOf, HasRange, Plays, MustPlay, M1, M2, M3, M4, M5, M6, M7, M8, M9, M10, M11, Meets}

-- ---- one test

pub leb_decides : (m n : ℕ) → leb m n ≡ true ↔ (m ≤ n)
leb_decides m n = (leb-true m n, le-leb m n)

pub in_range_decides : (low n high : ℕ) → in_range (low to high) n ≡ true ↔ Between low n high
unfolding in_range
in_range_decides low n high = Iff.trans (and-eq-true_iff _ _) (Iff.and (leb_decides low n) (leb_decides n high))

-- a test that is made only where another one passes, or only where it fails
pub if_decides : (b t : Bool) {B P : Type 0} → b ≡ true ↔ B → t ≡ true ↔ P → elim b [ true ↦ t | false ↦ true ] ≡ true ↔ (B → P)
if_decides true t b p = (λ h _. p.0 h, λ f. p.1 (f (b.0 refl)))
if_decides false t b p = (λ h x. absurd (false≢true (b.1 x)), λ f. refl)

unless_decides : (b t : Bool) {B P : Type 0} → b ≡ true ↔ B → t ≡ true ↔ P → elim b [ true ↦ true | false ↦ t ] ≡ true ↔ (¬ B → P)
unless_decides true t b p = (λ h f. absurd (f (b.0 refl)), λ f. refl)
unless_decides false t b p = (λ h _. p.0 h, λ f. p.1 (f (λ x. false≢true (b.1 x))))

or_decides : (a b : Bool) {A B : Type 0} → a ≡ true ↔ A → b ≡ true ↔ B → (a || b) ≡ true ↔ (A ⊎ B)
or_decides true b p q = (λ h. inl (p.0 refl), λ h. refl)
or_decides false b p q = (λ h. inr (q.0 h), λ h. ⊎_elim (λ x. absurd (false≢true (p.1 x))) q.1 h)

-- ---- the types whose members are to be in roles

pub plays_decides : (number : ℕ) (rs : List Role) → plays number rs ≡ true ↔ Plays number rs
unfolding plays
plays_decides number rs =
    Iff.trans (member_decides eqb_decides number (map (λ (r : Role). r.type) rs))
    (Memᴰ.of_map (λ (r : Role). r.type) rs, λ h. subst (λ (n : ℕ). n ∈ map (λ (r : Role). r.type) rs) h.2 (Memᴰ.map (λ (r : Role). r.type) h.1))

pub must_play_decides : (d : Diagram) (number : ℕ) (t : ObjectType) → must_play d number t ≡ true ↔ MustPlay d number t
unfolding must_play is_independent is_root
must_play_decides d number t =
    Iff.trans (and-eq-true_iff _ _)
    (Iff.and (Iff.trans not_iff_not (Iff.not (eqb_decides.iff t.indep 1)))
    (or_decides _ _ (eqb_decides.iff t.super 0) (plays_decides number (all_roles d))))

-- ---- the types that give FIRST and LAST

pub has_range_decides : (t : ObjectType) → has_range t ≡ true ↔ HasRange t
unfolding has_range is_root
has_range_decides t =
    or_decides _ _ (eqb_decides.iff t.super 0)
    (Iff.trans not_iff_not (Iff.not (Iff.trans (and-eq-true_iff _ _) (Iff.and (eqb_decides.iff t.first 0) (eqb_decides.iff t.last 0)))))

-- A value in the roles that a type plays is in the column of one of them
pub in_roles : (number v : ℕ) (l : List Played) → (v ∈ values_in_roles number l) ↔ InRoleOf number l v
unfolding values_in_roles
in_roles number v [] = (λ m. absurd (Memᴰ.not-nil m), λ h. absurd (Memᴰ.not-nil h.1))
in_roles number v (x ∷ xs) = go (eqb x.role.type number) (eqb_decides.iff x.role.type number) (in_roles number v xs)
  where
    rest : List ℕ
    rest = values_in_roles number xs

    later : InRoleOf number xs v → InRoleOf number (x ∷ xs) v
    later h = (h.0, there h.1, h.2, h.3)

    here_or_later : (b : Bool) → b ≡ true ↔ (x.role.type ≡ number) → InRoleOf number (x ∷ xs) v
        → ((b ≡ true) × (v ∈ x.values)) ⊎ InRoleOf number xs v
    here_or_later b e (y, here q, t, m) = inl (e.1 (rw q at t), rw q at m)
    here_or_later b e (y, there k, t, m) = inr (y, k, t, m)

    go : (b : Bool) → b ≡ true ↔ (x.role.type ≡ number) → (v ∈ rest) ↔ InRoleOf number xs v
        → (v ∈ elim b [ true ↦ x.values ++ rest | false ↦ rest ]) ↔ InRoleOf number (x ∷ xs) v
    go true e ih = (
      λ m. ⊎_elim (λ k. (x, here refl, e.0 refl, k)) (λ k. later (ih.0 k)) (Memᴰ.append_cases x.values m),
      λ h. ⊎_elim (λ k. Memᴰ.append_left rest k.1) (λ k. Memᴰ.append_right x.values (ih.1 k)) (here_or_later true e h),
    )
    go false e ih = (λ m. later (ih.0 m), λ h. ⊎_elim (λ k. absurd (false≢true k.0)) (λ k. ih.1 k) (here_or_later false e h))

-- ---- each constraint

K1_decides : (n : ℕ) (t : ObjectType) (vs : List ℕ) → K1 t vs ≡ true ↔ M1 n t vs
unfolding K1
K1_decides n t vs = all_differ_decides eqb_decides vs

K2_decides : (n : ℕ) (t : ObjectType) (vs : List ℕ) → K2 t vs ≡ true ↔ M2 n t vs
unfolding K2
K2_decides n t vs = in_range_decides t.min (length vs) t.max

K3_decides : (n : ℕ) (t : ObjectType) (vs : List ℕ) → K3 t vs ≡ true ↔ M3 n t vs
unfolding K3
K3_decides n t vs =
    if_decides (has_range t) _ (has_range_decides t)
    (all_decides (in_range (t.first to t.last)) (λ v. in_range_decides t.first v t.last) vs)

K5_decides : (p : Predicate) (rows : List (List ℕ)) → K5 p rows ≡ true ↔ M5 p rows
unfolding K5
K5_decides p rows = all_differ_decides same_decides rows

pub K6_decides : (p : Predicate) (rows : List (List ℕ)) → K6 p rows ≡ true ↔ M6 p rows
unfolding K6
K6_decides p rows = in_range_decides p.min (length rows) p.max

K9_decides : (p : Predicate) (rows : List (List ℕ)) → K9 p rows ≡ true ↔ M9 p rows
unfolding K9
K9_decides p rows =
    all_decides _ (λ x. all_decides _ (λ v. in_range_decides x.frequency.fmin _ x.frequency.fmax) x.combinations) (grouped p rows)

pub K11_decides : (p : Predicate) (rows : List (List ℕ)) → K11 p rows ≡ true ↔ M11 p rows
unfolding K11
K11_decides p rows = all_decides _ (λ x. in_range_decides x.role.rmin (member_count x) x.role.rmax) (played p rows)

module _ (o : Population) where
  K4_decides : (n : ℕ) (t : ObjectType) (vs : List ℕ) → K4 o t vs ≡ true ↔ M4 o n t vs
  unfolding K4 is_root
  K4_decides n t vs = unless_decides (is_root t) _ (eqb_decides.iff t.super 0) (within_decides eqb_decides vs (members_of o t.super))

  K7_decides : (p : Predicate) (rows : List (List ℕ)) → K7 o p rows ≡ true ↔ M7 o p rows
  unfolding K7
  K7_decides p rows = all_decides _ (λ x. within_decides eqb_decides x.values (members_of o x.role.type)) (played p rows)

  K8_decides : (p : Predicate) (rows : List (List ℕ)) → K8 o p rows ≡ true ↔ M8 o p rows
  unfolding K8 is_mandatory
  K8_decides p rows =
      all_decides _
      (λ x. if_decides (is_mandatory x.role) _ (eqb_decides.iff x.role.mand 1)
      (within_decides eqb_decides (members_of o x.role.type) x.values)) (played p rows)

K10_decides : (d : Diagram) (o : Population) (n : ℕ) (t : ObjectType) (vs : List ℕ) → K10 d o n t vs ≡ true ↔ M10 d o n t vs
unfolding K10
K10_decides d o n t vs =
    let values = values_in_roles n (all_played d o) in
    let in-role : (v : ℕ) → v ∈ values ↔ InRoleOf n (all_played d o) v = λ v. in_roles n v (all_played d o) in
    if_decides (must_play d n t) (within eqb vs values) (must_play_decides d n t)
    (Iff.trans (within_decides eqb_decides vs values) (λ s v m. (in-role v).0 (s v m), λ f v m. (in-role v).1 (f v m)))

-- ---- all constraints

each-type_decides : (k : ℕ → ObjectType → List ℕ → Bool) {P : ℕ → ObjectType → List ℕ → Type 0}
    → ((n : ℕ) (t : ObjectType) (vs : List ℕ) → k n t vs ≡ true ↔ P n t vs)
    → (n : ℕ) (ts : List ObjectType) (os : List (List ℕ)) → all (λ b. b) (each_type k n ts os) ≡ true ↔ EachType P n ts os
unfolding each_type all
each-type_decides k e n [] os = (λ h. tt, λ h. refl)
each-type_decides k e n (t ∷ ts) [] = (λ h. tt, λ h. refl)
each-type_decides k e n (t ∷ ts) (vs ∷ os) = Iff.trans (and-eq-true_iff _ _) (Iff.and (e n t vs) (each-type_decides k e (suc n) ts os))

pub each-pred_decides : (k : Predicate → List (List ℕ) → Bool) {P : Predicate → List (List ℕ) → Type 0}
    → ((p : Predicate) (rows : List (List ℕ)) → k p rows ≡ true ↔ P p rows)
    → (ps : List Predicate) (os : List (List (List ℕ))) → all (λ b. b) (each_pred k ps os) ≡ true ↔ EachPred P ps os
unfolding each_pred all
each-pred_decides k e [] os = (λ h. tt, λ h. refl)
each-pred_decides k e (p ∷ ps) [] = (λ h. tt, λ h. refl)
each-pred_decides k e (p ∷ ps) (rows ∷ os) = Iff.trans (and-eq-true_iff _ _) (Iff.and (e p rows) (each-pred_decides k e ps os))

-- Each of some lists of tests passes
abbrev pub Every : List (List Bool) → Type 0
Every [] = Unit {0}
Every (l ∷ ls) = (all (λ b. b) l ≡ true) × Every ls

none-false : (n : ℕ) (bs : List Bool) → all (λ b. b) bs ≡ true ↔ (first_false n bs ≡ none)
unfolding all first_false
none-false n [] = (λ h. refl, λ e. refl)
none-false n (true ∷ bs) = none-false (suc n) bs
none-false n (false ∷ bs) = (λ h. absurd (false≢true h), λ e. let z : ◌≡◌ {A = ℕ} 0 1 = cc in absurd (omega arith))

some-none : (n : ℕ) → ¬ (some n ≡ none)
some-none n e = let z : ◌≡◌ {A = ℕ} 0 1 = cc in omega arith

none-broken : (k : ℕ) (ls : List (List Bool)) → (first_broken k ls ≡ valid) ↔ Every ls
unfolding first_broken
none-broken k [] = (λ e. tt, λ h. refl)
none-broken k (l ∷ ls) = go (first_false 1 l) (none-false 1 l) (none-broken (suc k) ls)
  where
    go : (f : Option ℕ) → all (λ b. b) l ≡ true ↔ (f ≡ none) → (first_broken (suc k) ls ≡ valid) ↔ Every ls
        → (elim f [ some n ↦ breaks k n | none ↦ first_broken (suc k) ls ] ≡ valid) ↔ ((all (λ b. b) l ≡ true) × Every ls)
    go none e ih = (λ q. (e.1 refl, ih.0 q), λ h. ih.1 h.1)
    go (some n) e ih = (λ q. let z : ◌≡◌ {A = ℕ} 0 1 = cc in absurd (omega arith), λ h. absurd (some-none n (e.0 h.0)))

-- A last constraint decides where those before it hold
pub last-broken : (k : ℕ) (ls : List (List Bool)) (l : List Bool) → ◌≡◌ {A = Answer} (first_broken k (ls ++ l ∷ []))
    (elim (first_broken k ls) [ breaks j n ↦ breaks j n | valid ↦ first_broken (k + length ls) (l ∷ []) ])
unfolding first_broken
last-broken k [] l = let e : k ≡ k + 0 = omega arith in ap (λ (j : ℕ). first_broken j (l ∷ [])) e
last-broken k (m ∷ ls) l = go (first_false 1 m) (last-broken (suc k) ls l)
  where
    deciding : ℕ → Answer → Answer
    deciding at a = elim a [ breaks j n ↦ breaks j n | valid ↦ first_broken at (l ∷ []) ]

    go : (f : Option ℕ) → first_broken (suc k) (ls ++ l ∷ []) ≡ deciding (suc k + length ls) (first_broken (suc k) ls)
        → ◌≡◌ {A = Answer} (elim f [ some n ↦ breaks k n | none ↦ first_broken (suc k) (ls ++ l ∷ []) ])
        (deciding (k + suc (length ls)) (elim f [ some n ↦ breaks k n | none ↦ first_broken (suc k) ls ]))
    go none ih = let e : suc k + length ls ≡ k + suc (length ls) = omega arith in ih ∙ ap (λ (at : ℕ). deciding at (first_broken (suc k) ls)) e
    go (some n) ih = refl

-- so that one that holds where all others do changes no answer
pub last-idle : (k : ℕ) (ls : List (List Bool)) (l : List Bool) → (Every ls → all (λ b. b) l ≡ true) → first_broken k (ls ++ l ∷ []) ≡ first_broken k ls
last-idle k ls l h = last-broken k ls l ∙ go (first_broken k ls) refl
  where
    go : (a : Answer) → first_broken k ls ≡ a → ◌≡◌ {A = Answer} (elim a [ breaks j n ↦ breaks j n | valid ↦ first_broken (k + length ls) (l ∷ []) ]) a
    go (breaks j n) e = refl
    go valid e = (none-broken (k + length ls) (l ∷ [])).1 (h ((none-broken k ls).0 e), tt)

module _ (d : Diagram) (o : Population) where
  every_decides : Every (constraints d o) ↔ Meets d o
  unfolding constraints
  every_decides =
      let ts : List ObjectType = d.types in
      let ps : List Predicate = d.preds in
      let d1 = each-type_decides (λ n. K1) K1_decides 1 ts o.types in
      let d2 = each-type_decides (λ n. K2) K2_decides 1 ts o.types in
      let d3 = each-type_decides (λ n. K3) K3_decides 1 ts o.types in
      let d4 = each-type_decides (λ n. K4 o) (K4_decides o) 1 ts o.types in
      let d5 = each-pred_decides K5 K5_decides ps o.preds in
      let d6 = each-pred_decides K6 K6_decides ps o.preds in
      let d7 = each-pred_decides (K7 o) (K7_decides o) ps o.preds in
      let d8 = each-pred_decides (K8 o) (K8_decides o) ps o.preds in
      let d9 = each-pred_decides K9 K9_decides ps o.preds in
      let d10 = each-type_decides (K10 d o) (K10_decides d o) 1 ts o.types in
      let d11 = each-pred_decides K11 K11_decides ps o.preds in (
        λ (t1, (t2, (t3, (t4, (t5, (t6, (t7, (t8, (t9, (t10, (t11, e))))))))))). record {
          k1 = d1.0 t1;
          k2 = d2.0 t2;
          k3 = d3.0 t3;
          k4 = d4.0 t4;
          k5 = d5.0 t5;
          k6 = d6.0 t6;
          k7 = d7.0 t7;
          k8 = d8.0 t8;
          k9 = d9.0 t9;
          k10 = d10.0 t10;
          k11 = d11.0 t11;
        },
        λ m.
            let last : Every (each_type (K10 d o) 1 ts o.types ∷ each_pred K11 ps o.preds ∷ []) = (d10.1 m.k10, (d11.1 m.k11, tt)) in
            let late : Every (each_pred (K8 o) ps o.preds ∷ each_pred K9 ps o.preds ∷ each_type (K10 d o) 1 ts o.types
            ∷ each_pred K11 ps o.preds ∷ []) =
            (d8.1 m.k8, (d9.1 m.k9, last)) in
            (d1.1 m.k1, (d2.1 m.k2, (d3.1 m.k3, (d4.1 m.k4, (d5.1 m.k5, (d6.1 m.k6, (d7.1 m.k7, late))))))),
      )

  -- The validator says yes of the populations that meet the constraints, and of no other
  pub valid-iff-meets : (answer d o ≡ valid) ↔ Meets d o
  unfolding answer
  valid-iff-meets = Iff.trans (none-broken 1 (constraints d o)) every_decides
