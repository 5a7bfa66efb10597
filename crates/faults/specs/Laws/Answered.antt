-- The first constraint with an entry, after all that the passes find, is document 01's answer.
use Rattle.std.specs.Prelude.{ℕ, zero, suc, ◌+◌, ◌-◌, ◌≤◌, ◌<◌, ◌≡◌, refl, ◌↔◌, Bool, true, false, List, [], ◌∷◌, ◌++◌, eqb, length, get_or}
use Rattle.std.proofs.Common.{arith, ap}
use Rattle.std.proofs.Math.Option.{none, some}
use Rattle.std.proofs.Math.Dec.{eqb-suc-zero}
use Rattle.std.proofs.lemmas.List.{get_or-replicate}
use Rattle.counting.specs.Lists.{map_from}
use Rattle.counting.specs.Terms.{Each, EachFrom}
use Rattle.counting.proofs.Laws.Members.{each_nil, each-head, each_append}
use Rattle.orm.specs.Diagram.{ObjectType, Predicate, Diagram}
use Rattle.orm.specs.Population.{Population}
use Rattle.orm.specs.WellFormed.{WellFormed}
use Rattle.orm.specs.Meaning.{Shaped}
use Rattle.orm.specs.Constraints.{each_type, each_pred, constraints, Answer, breaks, first_false, first_broken, answer}
use Rattle.faults.specs.Faults.{Fault, unless, faults_of, lowered, no_entries, first_entry}
use Rattle.faults.specs.Passes.{faults}
use Rattle.faults.specs.Laws.Lowest.{Below, below-lowered}
use Rattle.faults.specs.Laws.Found.{each-unless, From, Exact, broken, found-broken, told-exactly}

-- Constraint k and the number of each of its tests, counted from m, that fails
unfoldable failures : ℕ → ℕ → List Bool → List Fault
failures k m [] = []
failures k m (b ∷ bs) = unless b k m ++ failures k (suc m) bs

type-failures : (K : ℕ → ObjectType → List ℕ → Bool) (k m : ℕ) (ts : List ObjectType) (os : List (List ℕ))
    → failures k m (each_type K m ts os) ≡ faults_of (λ (n : ℕ) (t : ObjectType) (vs : List ℕ). unless (K n t vs) k n) m ts os
unfolding failures each_type faults_of
type-failures K k m [] os = refl
type-failures K k m (t ∷ ts) [] = refl
type-failures K k m (t ∷ ts) (vs ∷ os) = rw (type-failures K k (suc m) ts os)

pred-failures : (K : Predicate → List (List ℕ) → Bool) (k m : ℕ) (ps : List Predicate) (os : List (List (List ℕ)))
    → failures k m (each_pred K ps os) ≡ faults_of (λ (n : ℕ) (p : Predicate) (rows : List (List ℕ)). unless (K p rows) k n) m ps os
unfolding failures each_pred faults_of
pred-failures K k m [] os = refl
pred-failures K k m (p ∷ ps) [] = refl
pred-failures K k m (p ∷ ps) (rows ∷ os) = rw (pred-failures K k (suc m) ps os)

tests_broken : (d : Diagram) (o : Population) → map_from (λ (k : ℕ). failures k 1) 1 (constraints d o) ≡ broken d o
unfolding constraints broken map_from
tests_broken d o = simp (type-failures, pred-failures)

failures-from : (k m : ℕ) (bs : List Bool) → Each (λ (f : Fault). (f.constraint ≡ k) × (m ≤ f.number)) (failures k m bs)
unfolding failures
failures-from k m [] = each_nil _
failures-from k m (b ∷ bs) =
    each_append _ _ _ (each-unless _ b (λ q. (refl, omega arith))) (λ f i. let (p, l) = failures-from k (suc m) bs f i in (p, omega arith))

-- An entry that has below it just what is below all failures is the first of them; if there is neither, `a` and `b` decide
first-is : (k m x : ℕ) (bs : List Bool) (a b : Answer) → 1 ≤ m → ((n : ℕ) → Below n x ↔ Each (λ (f : Fault). n < f.number) (failures k m bs))
    → (x ≡ 0 → a ≡ b) → ◌≡◌ {A = Answer} (elim (eqb x 0) [ true ↦ a | false ↦ breaks k x ]) (elim (first_false m bs) [ some n ↦ breaks k n | none ↦ b ])
unfolding first_false failures unless
first-is k m zero [] a b l u h = h refl
first-is k m (suc x) [] a b l u h = absurd (omega (arith, (u (suc x)).1 (each_nil _) (omega arith)))
first-is k m x (true ∷ bs) a b l u h = first-is k (suc m) x bs a b (omega arith) u h
first-is k m zero (false ∷ bs) a b l u h = absurd (omega (arith, each-head _ ((u m).0 (λ z. absurd (omega arith)))))
first-is k m (suc x) (false ∷ bs) a b l u h =
    let least : m - 1 < suc x = (u (m - 1)).1 (λ f i. omega (arith, (failures-from k m (false ∷ bs) f i).1)) (omega arith) in
    let most : x < m = each-head _ ((u x).0 (λ z. omega arith)) in
    let e : suc x ≡ m = omega arith in
    rw (eqb-suc-zero x) (ap (breaks k) e)

entries : (fs : List Fault) (k : ℕ) (bss : List (List Bool)) → k + length bss ≡ 12 → From k fs
    → EachFrom (Exact fs) k (map_from (λ (k : ℕ). failures k 1) k bss) → first_entry k (length bss) (lowered fs no_entries) ≡ first_broken k bss
unfolding first_entry first_broken map_from
entries fs k [] e l h = refl
entries fs k (bs ∷ bss) e l (h, hs) =
    let below = below-lowered k fs no_entries (omega arith) (λ f m q. (failures-from k 1 bs f (h.sound f m q)).1) in
    let none_yet : ◌≡◌ {A = ℕ} (get_or no_entries k 0) 0 = get_or-replicate 12 k 0 0 (omega arith) in
    first-is k 1 _ bs _ _ (omega arith)
    (λ n. (λ p f i. ((below n).0 p).1 f (h.complete l f i) (failures-from k 1 bs f i).0, λ p. (below n).1 (λ z. omega arith, λ f i q. p f (h.sound f i q))))
    (λ z. entries fs (suc k) bss (omega arith)
    (λ f m.
    let other : ¬ (f.constraint ≡ k) = λ q. omega (arith, ((below f.number).0 (λ r. absurd (omega arith))).1 f m q) in
    omega (arith, l f m))
    hs)

-- The first entry, of all eleven, is the answer
pub first-entry-answers : (d : Diagram) (o : Population) → WellFormed d → Shaped d o → first_entry 1 11 (lowered (faults d o) no_entries) ≡ answer d o
unfolding answer constraints
first-entry-answers d o formed shaped =
    entries (faults d o) 1 (constraints d o) (omega arith) (λ f m. (found-broken d o f m).0) (rw (tests_broken d o) (told-exactly d o formed shaped))
