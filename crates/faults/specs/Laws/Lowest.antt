-- The entry of a constraint is the lowest number that the faults tell of it.
use Rattle.std.specs.Prelude.{ℕ, ◌≤◌, ◌<◌, ◌≡◌, refl, ◌↔◌, Bool, true, false, ◌||◌, eqb, ltb, length, get_or, set}
use Rattle.std.proofs.Common.{arith, sym, ◌∙◌, length-set, get_or-set_same, get_or-set_other, eqb-true, ltb-true, ltb-false}
use mathlib.Core.List.{List, [], ◌∷◌, ◌++◌}
use Rattle.std.proofs.lemmas.Bool.{eqb-false}
use Rattle.counting.specs.Terms.{Each}
use Rattle.counting.proofs.Laws.Members.{each_nil, each-cons, each-head, each_tail}
use Rattle.faults.specs.Faults.{Fault, is_lower, noted, lowered}

pub lowered-then : (fs gs : List Fault) (e : List ℕ) → lowered (fs ++ gs) e ≡ lowered gs (lowered fs e)
unfolding lowered
lowered-then [] gs e = refl
lowered-then (f ∷ fs) gs e = lowered-then fs gs (noted f e)

-- The number is below the entry, or there is none
abbrev pub Below : ℕ → ℕ → Type 0
Below n x = 0 < x → n < x

-- After a fault there is its number, if that is below the entry, or all is as it was
noted-cases : (P : List ℕ → Type 0) (f : Fault) (e : List ℕ) → (Below f.number (get_or e f.constraint 0) → P (set e f.constraint f.number))
    → ((0 < get_or e f.constraint 0) × (get_or e f.constraint 0 ≤ f.number) → P e) → P (noted f e)
unfolding noted is_lower
noted-cases P f e t u = go (eqb (get_or e f.constraint 0) 0) (ltb f.number (get_or e f.constraint 0)) refl refl
  where
    go : (a b : Bool) → eqb (get_or e f.constraint 0) 0 ≡ a → ltb f.number (get_or e f.constraint 0) ≡ b
        → P (elim (a || b) [ true ↦ set e f.constraint f.number | false ↦ e ])
    go true b p q = t (λ l. omega (arith, eqb-true (get_or e f.constraint 0) 0 p))
    go false true p q = t (λ l. ltb-true _ _ q)
    go false false p q = let n : ¬ (get_or e f.constraint 0 ≡ 0) = eqb-false _ 0 p in u (omega arith, ltb-false _ _ q)

length-noted : (f : Fault) (e : List ℕ) → length (noted f e) ≡ length e
length-noted f e = noted-cases (λ l. length l ≡ length e) f e (λ _. length-set e f.constraint f.number) (λ _. refl)

pub length-lowered : (fs : List Fault) (e : List ℕ) → length (lowered fs e) ≡ length e
unfolding lowered
length-lowered [] e = refl
length-lowered (f ∷ fs) e = length-lowered fs (noted f e) ∙ length-noted f e

-- ---- one entry

pub noted_other : (k : ℕ) (f : Fault) (e : List ℕ) → ¬ (f.constraint ≡ k) → get_or (noted f e) k 0 ≡ get_or e k 0
noted_other k f e n =
    noted-cases (λ l. get_or l k 0 ≡ get_or e k 0) f e (λ _. get_or-set_other e f.constraint k f.number 0 (λ q. n (sym q))) (λ _. refl)

module _ (k : ℕ) where
  -- The fault lowers the entry of constraint k from `e` to `e'`, if it is of this constraint
  abbrev Lowers : Fault → List ℕ → List ℕ → Type 0
  Lowers f e e' = (n : ℕ) → Below n (get_or e' k 0) ↔ (Below n (get_or e k 0) × (f.constraint ≡ k → n < f.number))

  below-noted : (f : Fault) (e : List ℕ) → k < length e → (f.constraint ≡ k → 1 ≤ f.number) → Lowers f e (noted f e)
  below-noted f e h l = go (eqb f.constraint k) refl
    where
      go : (b : Bool) → eqb f.constraint k ≡ b → Lowers f e (noted f e)
      go false q = let c : ¬ (f.constraint ≡ k) = eqb-false _ k q in rw (noted_other k f e c) (λ n. (λ p. (p, λ z. absurd (c z)), λ (p, r). p))
      go true q =
          let c : f.constraint ≡ k = eqb-true _ k q in
          let v : 1 ≤ f.number = l c in
          noted-cases (Lowers f e) f e
          (λ q. rw (c, get_or-set_same e k f.number 0 h) (λ n. (λ p. (λ z. omega (arith, p v, (rw c at q) z), λ z. p v), λ (p, r) z. r refl)))
          (λ q n. let (s, l) = rw c at q in (λ p. (p, λ z. omega (arith, p s)), λ (p, r). p))

  -- What is below the entry after some faults is below that before, and below all that they tell
  pub below-lowered : (fs : List Fault) (e : List ℕ) → k < length e → Each (λ (f : Fault). f.constraint ≡ k → 1 ≤ f.number) fs → (n : ℕ)
      → Below n (get_or (lowered fs e) k 0) ↔ (Below n (get_or e k 0) × Each (λ (f : Fault). f.constraint ≡ k → n < f.number) fs)
  unfolding lowered
  below-lowered [] e h l n = (λ p. (p, each_nil _), λ (p, r). p)
  below-lowered (f ∷ fs) e h l n =
      let (to, from) = below-lowered fs (noted f e) (omega (arith, length-noted f e)) (each_tail _ l) n in
      let (first_to, first-from) = below-noted f e h (each-head _ l) n in
      (λ p. ((first_to (to p).0).0, each-cons _ (first_to (to p).0).1 (to p).1), λ (p, r). from (first-from (p, each-head _ r), each_tail _ r))
