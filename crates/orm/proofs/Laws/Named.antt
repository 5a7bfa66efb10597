-- What the validator names is broken: the test of that constraint fails for the type or predicate with that number.
use Rattle.std.specs.Prelude.{ℕ, suc, ◌+◌, ◌≤◌, ◌<◌, ◌≡◌, refl, Bool, true, false, List, [], ◌∷◌, length, get_or}
use Rattle.std.proofs.Common.{arith, sym, ap, subst, ◌∙◌}
use Rattle.std.proofs.Math.Option.{Option, none, some}
use Rattle.counting.specs.Index.{At, first, later}
use Rattle.orm.specs.Diagram.{ObjectType, Predicate, Diagram}
use Rattle.orm.specs.Population.{Population}
use Rattle.orm.specs.Constraints.{breaks, each_type, each_pred, K3, K10, K11, constraints, first_false, first_broken, answer}

-- the first that fails fails
failed_at : (m : ℕ) (bs : List Bool) {n : ℕ} → first_false m bs ≡ some n → (i : ℕ) × (n ≡ m + i) × At false bs i
unfolding first_false
failed_at m [] e = let z : ◌≡◌ {A = ℕ} 0 1 = cc in absurd (omega arith)
failed_at m (true ∷ bs) e = let (i, q, h) = failed_at (suc m) bs e in (suc i, omega arith, later h)
failed_at m (false ∷ bs) {n} e = let z : n ≡ m = cc in (0, omega arith, first refl)

-- the constraints from K number `k` on
named-at : (k : ℕ) (bss : List (List Bool)) {j n : ℕ} → first_broken k bss ≡ breaks j n
    → (i : ℕ) × (j ≡ k + i) × (first_false 1 (get_or bss i []) ≡ some n)
unfolding first_broken
named-at k [] e = let z : ◌≡◌ {A = ℕ} 0 1 = cc in absurd (omega arith)
named-at k (bs ∷ bss) {j} {n} e = go (first_false 1 bs) refl e (named-at (suc k) bss)
  where
    go : (f : Option ℕ) → first_false 1 bs ≡ f → elim f [ some m ↦ breaks k m | none ↦ first_broken (suc k) bss ] ≡ breaks j n
        → (first_broken (suc k) bss ≡ breaks j n → (i : ℕ) × (j ≡ suc k + i) × (first_false 1 (get_or bss i []) ≡ some n))
        → (i : ℕ) × (j ≡ k + i) × (first_false 1 (get_or (bs ∷ bss) i []) ≡ some n)
    go none q e rest = let (i, z, h) = rest e in (suc i, omega arith, h)
    go (some m) q e rest =
        let same-k : j ≡ k = cc in
        let same-n : m ≡ n = cc in
        (0, omega arith, q ∙ ap some same-n)

pub breaks-within : (k : ℕ) (bss : List (List Bool)) {j n : ℕ} → first_broken k bss ≡ breaks j n → j < k + length bss
unfolding first_broken
breaks-within k [] e = let z : ◌≡◌ {A = ℕ} 0 1 = cc in absurd (omega arith)
breaks-within k (bs ∷ bss) {j} {n} e = go (first_false 1 bs) e (breaks-within (suc k) bss)
  where
    go : (f : Option ℕ) → elim f [ some m ↦ breaks k m | none ↦ first_broken (suc k) bss ] ≡ breaks j n
        → (first_broken (suc k) bss ≡ breaks j n → j < suc k + length bss) → j < k + suc (length bss)
    go none e rest = let h : j < suc k + length bss = rest e in omega arith
    go (some m) e rest = let same-k : j ≡ k = cc in omega arith

-- they count from 1
pub breaks-from_1 : (d : Diagram) (o : Population) {j n : ℕ} → answer d o ≡ breaks j n → 1 ≤ j
unfolding answer
breaks-from_1 d o e = let (i, q, f) = named-at 1 (constraints d o) e in omega arith

tested_at : (k : ℕ → ObjectType → List ℕ → Bool) (number : ℕ) (ts : List ObjectType) (os : List (List ℕ)) {i : ℕ}
    → At false (each_type k number ts os) i → (t : ObjectType) × (vs : List ℕ) × At t ts i × At vs os i × (k (number + i) t vs ≡ false)
unfolding each_type
tested_at k number [] os {i = i} x' = elim x' [ ]
tested_at k number (t ∷ ts) [] {i = i} x3 = elim x3 [ ]
tested_at k number (t ∷ ts) (vs ∷ os) (first e) =
    let z : number ≡ number + 0 = omega arith in
    (t, vs, first refl, first refl, subst (λ (m : ℕ). k m t vs ≡ false) z (sym e))
tested_at k number (t ∷ ts) (vs ∷ os) (later {i = i} h) =
    let (u, ws, l, m, q) = tested_at k (suc number) ts os h in
    let z : suc number + i ≡ number + suc i = omega arith in
    (u, ws, later l, later m, subst (λ (m : ℕ). k m u ws ≡ false) z q)

pred-tested-at : (k : Predicate → List (List ℕ) → Bool) (ps : List Predicate) (os : List (List (List ℕ))) {i : ℕ}
    → At false (each_pred k ps os) i → (p : Predicate) × (rows : List (List ℕ)) × At p ps i × At rows os i × (k p rows ≡ false)
unfolding each_pred
pred-tested-at k [] os {i = i} x' = elim x' [ ]
pred-tested-at k (p ∷ ps) [] {i = i} x3 = elim x3 [ ]
pred-tested-at k (p ∷ ps) (rows ∷ os) (first e) = (p, rows, first refl, first refl, sym e)
pred-tested-at k (p ∷ ps) (rows ∷ os) (later h) = let (q, r, l, m, e) = pred-tested-at k ps os h in (q, r, later l, later m, e)

-- A constraint on types fails for the type with this number
pub record Fails (k : ℕ → ObjectType → List ℕ → Bool) (d : Diagram) (o : Population) (number : ℕ) : Type 0 where
  pub place : ℕ
  pub type : ObjectType
  pub members : List ℕ
  pub standing : At type d.types place
  pub held : At members o.types place
  pub numbered : number ≡ suc place
  pub fails : k number type members ≡ false

-- A constraint on predicates fails for the predicate with this number
pub record PredFails (k : Predicate → List (List ℕ) → Bool) (d : Diagram) (o : Population) (number : ℕ) : Type 0 where
  pub place : ℕ
  pub predicate : Predicate
  pub rows : List (List ℕ)
  pub standing : At predicate d.preds place
  pub held : At rows o.preds place
  pub numbered : number ≡ suc place
  pub fails : k predicate rows ≡ false

-- `i` is its place among the constraints, `tests` are its tests
named_test : (d : Diagram) (o : Population) (i : ℕ) (tests : List Bool) {number : ℕ} → answer d o ≡ breaks (1 + i) number
    → get_or (constraints d o) i [] ≡ tests → (a : ℕ) × (number ≡ 1 + a) × At false tests a
unfolding answer
named_test d o i tests {number} e own = go (named-at 1 (constraints d o) e)
  where
    go : (j : ℕ) × (1 + i ≡ 1 + j) × (first_false 1 (get_or (constraints d o) j []) ≡ some number) → (a : ℕ) × (number ≡ 1 + a) × At false tests a
    go (j, z, f) =
        let same : j ≡ i = omega arith in
        let failed : first_false 1 tests ≡ some number = rw own at (rw same at f) in
        failed_at 1 tests failed

named-type : (k : ℕ → ObjectType → List ℕ → Bool) (d : Diagram) (o : Population) (i : ℕ) {number : ℕ} → answer d o ≡ breaks (1 + i) number
    → get_or (constraints d o) i [] ≡ each_type k 1 d.types o.types → Fails k d o number
named-type k d o i {number} e own = go (named_test d o i _ e own)
  where
    of-type : (a : ℕ) → number ≡ 1 + a → (t : ObjectType) × (vs : List ℕ) × At t d.types a × At vs o.types a × (k (1 + a) t vs ≡ false)
        → Fails k d o number
    of-type a q (t, vs, h, m, f) = record { place = a; type = t; members = vs; standing = h; held = m; numbered = omega arith; fails = rw q f }

    go : (a : ℕ) × (number ≡ 1 + a) × At false (each_type k 1 d.types o.types) a → Fails k d o number
    go (a, q, h) = of-type a q (tested_at k 1 d.types o.types h)

named-pred : (k : Predicate → List (List ℕ) → Bool) (d : Diagram) (o : Population) (i : ℕ) {number : ℕ} → answer d o ≡ breaks (1 + i) number
    → get_or (constraints d o) i [] ≡ each_pred k d.preds o.preds → PredFails k d o number
named-pred k d o i {number} e own = go (named_test d o i _ e own)
  where
    of-pred : (a : ℕ) → number ≡ 1 + a → (p : Predicate) × (rows : List (List ℕ)) × At p d.preds a × At rows o.preds a × (k p rows ≡ false)
        → PredFails k d o number
    of-pred a q (p, rows, h, m, f) = record { place = a; predicate = p; rows = rows; standing = h; held = m; numbered = omega arith; fails = f }

    go : (a : ℕ) × (number ≡ 1 + a) × At false (each_pred k d.preds o.preds) a → PredFails k d o number
    go (a, q, h) = of-pred a q (pred-tested-at k d.preds o.preds h)

pub named-K3 : (d : Diagram) (o : Population) {number : ℕ} → answer d o ≡ breaks 3 number → Fails (λ n. K3) d o number
unfolding constraints
named-K3 d o e = named-type (λ n. K3) d o 2 e refl

pub named-K10 : (d : Diagram) (o : Population) {number : ℕ} → answer d o ≡ breaks 10 number → Fails (K10 d o) d o number
unfolding constraints
named-K10 d o e = named-type (K10 d o) d o 9 e refl

pub named-K11 : (d : Diagram) (o : Population) {number : ℕ} → answer d o ≡ breaks 11 number → PredFails K11 d o number
unfolding constraints
named-K11 d o e = named-pred K11 d o 10 e refl
