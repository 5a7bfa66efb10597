-- What the passes find is just what breaks a constraint, as far as nothing is found of a lower one.
use Rattle.std.specs.Prelude.{ℕ, suc, ◌+◌, ◌-◌, ◌≤◌, ◌<◌, ◌≡◌, Bool, length, get_or}
use native.Mathlib.Omega.{arith}
use Rattle.std.proofs.Math.Path.{refl}
use Rattle.std.proofs.Common.{sym, ap, subst, ◌∙◌, suc-add, add-suc, lit≤}
use Rattle.std.proofs.Math.Bool.{true, false, and-false, false≢true}
use mathlib.Core.List.{List, [], ◌∷◌, ◌++◌, map, flatten}
use mathlib.Core.List.Memᴰ
use mathlib.Core.List.Memᴰ.{append_left as left}
use mathlib.Core.List.Memᴰ.{append_right as right}
use mathlib.Core.List.Memᴰ.{head as here}
use mathlib.Core.List.Memᴰ.{tail as there}
use Rattle.std.proofs.Math.Nat.{add-zero}
use Rattle.std.proofs.Math.Dec.{eqb}
use borrow.Author.Tests.{ne_eqb, eqb-true, eq-eqb}
use Rattle.counting.specs.Terms.{◌∈◌, ◌⊆◌, Each, EachFrom}
use Rattle.counting.proofs.Laws.Index.{at_in, at-get_or, at-below, below_at, each-from-at, of-map_from}
use Rattle.counting.specs.Index.{At, first, later}
use Rattle.counting.proofs.Laws.Members.{each_nil, each-cons, each_append, in_flatten}
use Rattle.counting.proofs.Laws.Distinct.{all-fails}
use Rattle.counting.specs.Distinct.{all, within}
use Rattle.orm.specs.Diagram.{ObjectType, Predicate, Diagram, is_root, index}
use Rattle.orm.specs.Population.{Population}
use Rattle.orm.specs.WellFormed.{WellFormed, TypeForm}
use Rattle.orm.specs.Meaning.{Between, Shaped}
use Rattle.orm.specs.Constraints.{Played, played, members_of, K1, K2, K3, K4, K5, K6, K7, K8, K9, K10, K11}
use Rattle.faults.specs.Faults.{Fault, unless, given, faults_of}
use Rattle.faults.specs.Passes.{belongs, fills, limited, role_faults, roles_faults, subtype_faults, member_faults, type_faults, pred_faults, faults}

module _ (P : Fault → Type 0) where
  pub each-unless : (b : Bool) {k n : ℕ} → (b ≡ false → P (record { constraint = k; number = n })) → Each P (unless b k n)
  unfolding unless
  each-unless true h = each_nil P
  each-unless false h = each-cons P (h refl) (each_nil P)

  pub each-given : (b : Bool) {fs : List Fault} → (b ≡ true → Each P fs) → Each P (given b fs)
  unfolding given
  each-given true h = h refl
  each-given false h = each_nil P

  pub each-found : {X A : Type 0} (of : ℕ → X → A → List Fault) (m : ℕ) (xs : List X) (os : List A)
      → ((i : ℕ) (x : X) (a : A) → At x xs i → At a os i → Each P (of (m + i) x a)) → Each P (faults_of of m xs os)
  unfolding faults_of
  each-found of m [] os h = each_nil P
  each-found of m (x ∷ xs) [] h = each_nil P
  each-found of m (x ∷ xs) (a ∷ os) h =
      each_append P _ _ (rw add-zero at (h 0 x a (first refl) (first refl)))
      (each-found of (suc m) xs os (λ i y b p q. rw (suc-add, ← add-suc) (h (suc i) y b (later p) (later q))))

  pub each-flat : {A : Type 0} (of : A → List Fault) (xs : List A) → ((x : A) → x ∈ xs → Each P (of x)) → Each P (flatten (map of xs))
  unfolding flatten
  each-flat of [] h = each_nil P
  each-flat of (x ∷ xs) h = each_append P _ _ (h x (here refl)) (each-flat of xs (λ y m. h y (there m)))

  each_all : {A : Type 0} (test : A → Bool) (xs : List A) {k n : ℕ} → ((x : A) → x ∈ xs → test x ≡ false → P (record { constraint = k; number = n }))
      → Each P (unless (all test xs) k n)
  each_all test xs h = each-unless (all test xs) (λ q. let (x, i, r) = all-fails test xs q in h x i r)

-- What holds of each fault of the parts holds of each of the whole
pub ruleset each_part = (each_append, each-unless, each-given, each-found, each-flat, lit≤)

in_unless : (b : Bool) {k n : ℕ} → b ≡ false → record { constraint = k; number = n } ∈ unless b k n
unfolding unless
in_unless b e = rw e (here refl)

in_found : {X A : Type 0} {x : X} {a : A} (of : ℕ → X → A → List Fault) (m : ℕ) {i : ℕ} {xs : List X} {os : List A} → At x xs i → At a os i
    → of (m + i) x a ⊆ faults_of of m xs os
unfolding faults_of
in_found of m (first p) (first q) f k = left _ (rw (add-zero, p, q) at k)
in_found of m (later {x = y} p) (later {x = b} q) f k = right (of m y b) (in_found of (suc m) p q f (rw (add-suc, ← suc-add) at k))

-- What is in a part is in the whole
ruleset in-part = (left, right, in_found, in_unless)

all-not : {A : Type 0} (p : A → Bool) {x : A} {xs : List A} → x ∈ xs → p x ≡ false → all p xs ≡ false
unfolding all
all-not p (here e) q = rw (ap p (sym e) ∙ q)
all-not p (there m) q = rw (all-not p m q, and-false)

-- Nothing is told of a constraint below k
abbrev pub From : ℕ → List Fault → Type 0
From k fs = Each (λ (f : Fault). k ≤ f.constraint) fs

-- Of constraint k just `gs` is told; all of these, only if nothing is told of a lower one
pub record Exact (fs : List Fault) (k : ℕ) (gs : List Fault) : Type 0 where
  pub sound : Each (λ (f : Fault). f.constraint ≡ k → f ∈ gs) fs
  pub complete : From k fs → gs ⊆ fs

module _ (d : Diagram) (o : Population) where
  -- The faults of each constraint: the numbers of all types or predicates that break it
  unfoldable pub broken : List (List Fault)
  broken =
      let of_types : ℕ → (ℕ → ObjectType → List ℕ → Bool) → List Fault = λ k K. faults_of (λ n t ms. unless (K n t ms) k n) 1 d.types o.types in
      let of_preds : ℕ → (Predicate → List (List ℕ) → Bool) → List Fault = λ k K. faults_of (λ n p rows. unless (K p rows) k n) 1 d.preds o.preds in
      of_types 1 (λ n. K1) ∷ of_types 2 (λ n. K2) ∷ of_types 3 (λ n. K3) ∷ of_types 4 (λ n. K4 o)
      ∷ of_preds 5 K5 ∷ of_preds 6 K6 ∷ of_preds 7 (K7 o) ∷ of_preds 8 (K8 o) ∷ of_preds 9 K9
      ∷ of_types 10 (K10 d o) ∷ of_preds 11 K11 ∷ []

  -- The fault is of one of the constraints, and breaks it
  abbrev pub Broken : Fault → Type 0
  Broken f = (1 ≤ f.constraint) × (f ∈ get_or broken (index f.constraint) [])

  -- ---- whatever is found is broken

  module _ {i : ℕ} {ms : List ℕ} (at : At ms o.types i) where
    members-are : (j : ℕ) → eqb j (1 + i) ≡ true → members_of o j ≡ ms
    unfolding members_of
    members-are j q = let z : j - 1 ≡ i = omega (arith, eqb-true j (1 + i) q) in rw z (at-get_or [] at)

    K4-fails : (u : ObjectType) (vs : List ℕ) → eqb u.super (1 + i) ≡ true → within eqb vs ms ≡ false → K4 o u vs ≡ false
    unfolding K4 is_root
    K4-fails u vs e q =
        let l : ¬ (u.super ≡ 0) = λ z. omega (arith, eqb-true u.super (1 + i) e) in
        rw (K4, is_root, ne_eqb u.super 0 l, members-are u.super e) q

  role-fails : (test : List ℕ → Played → Bool) {i : ℕ} {ms : List ℕ} {x : Played} {xs : List Played} → At ms o.types i → x ∈ xs
      → eqb x.role.type (1 + i) ≡ true → test ms x ≡ false → all (λ (y : Played). test (members_of o y.role.type) y) xs ≡ false
  role-fails test {x = x} at m e q = all-not (λ (y : Played). test (members_of o y.role.type) y) m (rw (members-are at x.role.type e) q)

  -- Whatever is found is broken
  pub found-broken : Each Broken (faults d o)
  unfolding broken faults type_faults member_faults roles_faults subtype_faults role_faults pred_faults K7 K8 K11 belongs fills limited
  found-broken = search (each_part, in-part, K4-fails, role-fails belongs, role-fails fills, role-fails (λ _. limited)) depth 20 fits 9000

  -- ---- whatever is broken is found, if no lower constraint is told

  module _ (formed : WellFormed d) (shaped : Shaped d o) where
    module _ {k : ℕ} (l : From k (faults d o)) where
      -- A test of a lower constraint holds, if it is told where it fails
      kept : (j n : ℕ) (b : Bool) → j < k → (b ≡ false → record { constraint = j; number = n } ∈ faults d o) → b ≡ true
      kept j n true h s = refl
      kept j n false h s = absurd (omega (arith, l _ (s refl)))

      of_members : {i : ℕ} {t : ObjectType} {ms : List ℕ} → 2 < k → At t d.types i → At ms o.types i → member_faults d o (1 + i) t ms ⊆ faults d o
      unfolding faults type_faults unless given
      of_members {i} {t} {ms} h at members f m =
          let k1 : K1 t ms ≡ true = kept 1 (1 + i) _ (omega arith) (λ q. search in-part depth 7) in
          let k2 : K2 t ms ≡ true = kept 2 (1 + i) _ h (λ q. search in-part depth 7) in
          let g : f ∈ type_faults d o (1 + i) t ms = rw (type_faults, k1, k2) m in
          search in-part

      -- What is told of the members of the type with the number n, whatever else that type says
      of_number : {f : Fault} (n : ℕ) → Between 1 n (length d.types) → 2 < k
          → ((t : ObjectType) → f ∈ member_faults d o n t (members_of o n)) → f ∈ faults d o
      unfolding members_of
      of_number n (from, to) h m =
          let (t, a) = below_at d.types (n - 1) (omega arith) in
          let (ms, b) = below_at o.types (n - 1) (omega (arith, shaped.types)) in
          let z : 1 + (n - 1) ≡ n = omega arith in
          of_members h a b _ (rw (z, ← at-get_or [] b) (m t))

      subtype-told : {i : ℕ} {t : ObjectType} {vs : List ℕ} → 2 < k → At t d.types i → At vs o.types i → K4 o t vs ≡ false
          → record { constraint = 4; number = 1 + i } ∈ faults d o
      unfolding K4 is_root member_faults subtype_faults given unless
      subtype-told {i} {t} {vs} h at members q =
          let some : ¬ (t.super ≡ 0) = λ z. false≢true (sym (rw (K4, is_root, eq-eqb t.super 0 z) at q)) in
          let r : within eqb vs (members_of o t.super) ≡ false = rw (K4, is_root, ne_eqb t.super 0 some) at q in
          let form = each-from-at (TypeForm d.types) 1 formed.types at in
          let g : record { constraint = 4; number = 1 + i } ∈ subtype_faults t.super (members_of o t.super) (1 + i) t vs =
          rw (subtype_faults, eq-eqb t.super t.super refl, r) (here refl) in
          of_number t.super (omega arith, omega (arith, form.above, at-below at)) h (λ u. search in-part)

      module _ {i : ℕ} {p : Predicate} {rows : List (List ℕ)} {x : Played} (at : At p d.preds i) (b : At rows o.preds i) (role : x ∈ played p rows) where
        role-told : {f : Fault} → 2 < k → f ∈ unless (belongs (members_of o x.role.type) x) 7 (1 + i) ++ given (belongs (members_of o x.role.type) x)
            (unless (fills (members_of o x.role.type) x) 8 (1 + i) ++ unless (limited x) 11 (1 + i)) → f ∈ faults d o
        unfolding played member_faults roles_faults role_faults given
        role-told {f} h m =
            let (j, r, a, e) = of-map_from _ 0 p.roles role in
            let form = (formed.preds p (at_in at)).roles x.role (rw (ap (λ (y : Played). y.role) e) (at_in a)) in
            let own : f ∈ role_faults x.role.type (members_of o x.role.type) (1 + i) x =
            rw (role_faults, eq-eqb x.role.type x.role.type refl) m in
            let g = in_flatten (Memᴰ.map (role_faults x.role.type (members_of o x.role.type) (1 + i)) role) own in
            of_number x.role.type form.player h (λ u. search in-part)

        others-told : {f : Fault} → 7 < k → f ∈ unless (fills (members_of o x.role.type) x) 8 (1 + i) ++ unless (limited x) 11 (1 + i) → f ∈ faults d o
        unfolding given unless
        others-told h m =
            let b : belongs (members_of o x.role.type) x ≡ true = kept 7 (1 + i) _ h (λ q. role-told (omega arith) (search in-part)) in
            role-told (omega arith) (rw b m)

    exact : {R : Type 0} (k : ℕ) → (From k (faults d o) → get_or broken (index k) [] ⊆ faults d o) → R → Exact (faults d o) k (get_or broken (index k) []) × R
    exact k h r = (record { sound = λ f m q. subst (λ (j : ℕ). f ∈ get_or broken (index j) []) q (found-broken f m).1; complete = h }, r)

    -- Each constraint is told exactly
    pub told-exactly : EachFrom (Exact (faults d o)) 1 broken
    unfolding broken faults type_faults member_faults pred_faults K7 K8 K11 belongs fills limited
    told-exactly =
        exact 1 (λ l. each-found _ _ _ _ _ (search in-part depth 7))
        (exact 2 (λ l. each-found _ _ _ _ _ (search in-part depth 7))
        (exact 3 (λ l. each-found _ _ _ _ _ λ i t ms p q f m. of_members l (omega arith) p q f (search in-part))
        (exact 4 (λ l. each-found _ _ _ _ _ λ i t ms p q. each-unless _ _ (subtype-told l (omega arith) p q))
        (exact 5 (λ l. each-found _ _ _ _ _ (search in-part depth 7))
        (exact 6 (λ l. each-found _ _ _ _ _ (search in-part depth 7))
        (exact 7 (λ l. each-found _ _ _ _ _ λ i p rows a b. each_all _ _ _ λ x m r. role-told l a b m (omega arith) (search in-part))
        (exact 8 (λ l. each-found _ _ _ _ _ λ i p rows a b. each_all _ _ _ λ x m r. others-told l a b m (omega arith) (search in-part))
        (exact 9 (λ l. each-found _ _ _ _ _ (search in-part depth 7))
        (exact 10 (λ l. each-found _ _ _ _ _ λ i t ms p q f m. of_members l (omega arith) p q f (search in-part))
        (exact 11 (λ l. each-found _ _ _ _ _ λ i p rows a b. each_all _ _ _ λ x m r. others-told l a b m (omega arith) (search in-part))
        tt))))))))))
