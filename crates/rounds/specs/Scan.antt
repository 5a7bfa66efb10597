-- Searches for the first set whose upper bound is below its lower bound.
use Rattle.std.specs.Prelude.{ℕ, suc, ◌+◌, ◌≤◌, ◌≡◌, refl, Bool, true, false, not, List, [], ◌∷◌, ◌++◌, eqb, ltb, nat_lt, cond, length, position, zip, slice_index, Option, Some, None}
use Rattle.std.specs.List.{position_or_len}
use Rattle.std.proofs.Math.Decide.{dec_le}
use Rattle.std.proofs.Common.{arith, ap, ap₂, sym, ◌∙◌, lt-ltb, le-ltb, eqb-true}
use Rattle.std.proofs.Math.Option as lowest
use Rattle.std.proofs.Math.Option.{none, some}
use Rattle.counting.specs.Lists.{when}
use Rattle.fixpoint.specs.Limits.{first_below}
use Rattle.dependents.specs.Dependents.{differing}
use Rattle.rounds.specs.Answer.{lowest_of, first_in}

abbrev Below : ℕ × ℕ → Bool
Below p = nat_lt p.1 p.0

abbrev Answer : ℕ → List (ℕ × ℕ) → Option ℕ
Answer i ps = cond (nat_lt (position_or_len Below ps) (length ps)) (Some (i + position_or_len Below ps)) None

ltb_suc : (n m : ℕ) → nat_lt (1 + n) (suc m) ≡ nat_lt n m
ltb_suc n m = go (dec_le m n)
  where
    go : Dec (m ≤ n) → nat_lt (1 + n) (suc m) ≡ nat_lt n m
    go (yes h) = le-ltb (1 + n) (suc m) (omega arith) ∙ sym (le-ltb n m h)
    go (no h) = lt-ltb (1 + n) (suc m) (omega arith) ∙ sym (lt-ltb n m (omega arith))

from : (i : ℕ) (f c : List ℕ) → Answer i (zip f c) ≡ lowest_of (first_below i f c)
unfolding first_below
from i [] c = refl
from i (l ∷ f) [] = refl
from i (l ∷ f) (x ∷ c) = go (nat_lt x l) (from (suc i) f c)
  where
    go : (b : Bool) → Answer (suc i) (zip f c) ≡ lowest_of (first_below (suc i) f c)
        → cond (nat_lt (cond (not b) (1 + position_or_len Below (zip f c)) 0) (suc (length (zip f c)))) (Some (i + cond (not b) (1 + position_or_len Below (zip f c)) 0)) None
        ≡ lowest_of (elim b as (λ _. lowest.Option ℕ) [ true ↦ some i | false ↦ first_below (suc i) f c ])
    go true e =
        let z : i + 0 ≡ i = omega arith in
        ap (λ b. cond b (Some (i + 0)) None) (lt-ltb 0 (suc (length (zip f c))) (omega arith)) ∙ ap Some z
    go false e =
        let n : ℕ = position_or_len Below (zip f c) in
        let z : i + (1 + n) ≡ suc i + n = omega arith in
        ap (λ b. cond b (Some (i + (1 + n))) None) (ltb_suc n (length (zip f c)))
        ∙ ap (λ k. cond (nat_lt n (length (zip f c))) (Some k) None) z ∙ e

pub position_is : (f c : List ℕ) → position (λ (p : ℕ × ℕ). nat_lt p.1 p.0) (zip f c) ≡ lowest_of (first_below 0 f c)
position_is f c =
    let n : ℕ = position_or_len Below (zip f c) in
    let z : n ≡ 0 + n = omega arith in
    ap (λ k. cond (nat_lt n (length (zip f c))) (Some k) None) z ∙ from 0 f c

-- ---- of sizes that were not below, only those that changed can be

module _ (f c' : List ℕ) where
  changed-from : (i : ℕ) (g c d : List ℕ) → length g ≡ length c → length c ≡ length d → ((k : ℕ) → slice_index g k ≡ slice_index f (i + k))
      → ((k : ℕ) → slice_index d k ≡ slice_index c' (i + k)) → first_below i g c ≡ none
      → first_in f c' (differing i c d) ≡ lowest_of (first_below i g d)
  unfolding first_below differing
  changed-from i [] [] d e h ef ec n = refl
  changed-from i [] (x ∷ c) d e h ef ec n = absurd (omega arith)
  changed-from i (l ∷ g) [] d e h ef ec n = absurd (omega arith)
  changed-from i (l ∷ g) (x ∷ c) [] e h ef ec n = absurd (omega arith)
  changed-from i (l ∷ g) (x ∷ c) (y ∷ d) e h ef ec n =
      go (ltb x l) refl (eqb x y) refl n
      (changed-from (suc i) g c d (omega arith) (omega arith) (λ k. ef (suc k) ∙ ap (slice_index f) (step k)) (λ k. ec (suc k) ∙ ap (slice_index c') (step k)))
    where
      step : (k : ℕ) → i + suc k ≡ suc i + k
      step k = omega arith

      zero-step : i + 0 ≡ i
      zero-step = omega arith

      el : l ≡ slice_index f i
      el = ef 0 ∙ ap (slice_index f) zero-step

      ey : y ≡ slice_index c' i
      ey = ec 0 ∙ ap (slice_index c') zero-step

      go : (a : Bool) → ltb x l ≡ a → (b : Bool) → eqb x y ≡ b
          → ◌≡◌ {A = lowest.Option ℕ} (elim a as (λ _. lowest.Option ℕ) [ true ↦ some i | false ↦ first_below (suc i) g c ]) none
          → (first_below (suc i) g c ≡ none → first_in f c' (differing (suc i) c d) ≡ lowest_of (first_below (suc i) g d))
          → first_in f c' (when (not b) i ++ differing (suc i) c d)
          ≡ lowest_of (elim (ltb y l) as (λ _. lowest.Option ℕ) [ true ↦ some i | false ↦ first_below (suc i) g d ])
      go true ea b eb h rec = let z : ◌≡◌ {A = ℕ} 0 1 = cc in absurd (omega arith)
      go false ea true eb h rec =
          let q : ltb y l ≡ false = ap (λ z. ltb z l) (sym (eqb-true x y eb)) ∙ ea in
          rec h ∙ ap (λ b. lowest_of (elim b as (λ _. lowest.Option ℕ) [ true ↦ some i | false ↦ first_below (suc i) g d ])) (sym q)
      go false ea false eb h rec =
          ap (λ b. cond b (Some i) (first_in f c' (differing (suc i) c d))) (ap₂ ltb (sym ey) (sym el)) ∙ last (ltb y l)
        where
          last : (b : Bool) → cond b (Some i) (first_in f c' (differing (suc i) c d))
              ≡ lowest_of (elim b as (λ _. lowest.Option ℕ) [ true ↦ some i | false ↦ first_below (suc i) g d ])
          last true = refl
          last false = rec h

pub changed_first : (f c c' : List ℕ) → length f ≡ length c → length c ≡ length c' → first_below 0 f c ≡ none
    → first_in f c' (differing 0 c c') ≡ lowest_of (first_below 0 f c')
changed_first f c c' e h n = changed-from f c' 0 f c c' e h (λ k. ap (slice_index f) (zero-first k)) (λ k. ap (slice_index c') (zero-first k)) n
  where
    zero-first : (k : ℕ) → k ≡ 0 + k
    zero-first k = omega arith
