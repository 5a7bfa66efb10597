-- A limit has the same value at two lists of sizes, or an operand at which they differ.
use Prim.Native.Nat.{ℕ, ◌+◌, ◌*◌, ◌/◌}
use Rattle.std.specs.Prelude.{◌≡◌, ◌⊎◌, slice_index}
use Rattle.std.proofs.Math.Path.{refl, ap, ap₂}
use Rattle.std.proofs.Common.{inl, inr}
use mathlib.Core.List.{List, [], ◌∷◌}
use mathlib.Core.List.Memᴰ.{head as here}
use mathlib.Core.List.Memᴰ.{tail as there}
use Rattle.std.proofs.Math.Decide.{ℕ_discrete}
use Rattle.counting.specs.Terms.{◌∈◌}
use Rattle.counting.specs.Totals.{sum_over, product_over}
use Rattle.fixpoint.specs.Limits.{Expr, product, sum, times, quotient, value_of}
use Rattle.lowering.specs.Closed.{operands_of}

module _ (c c' : List ℕ) where
  -- A set among these at which the sizes differ
  pub record Differs (ss : List ℕ) : Type 0 where
    pub operand : ℕ
    pub has : operand ∈ ss
    pub apart : slice_index c operand ≡ slice_index c' operand → ⊥

  differs-there : {s : ℕ} {ss : List ℕ} → Differs ss → Differs (s ∷ ss)
  differs-there d = record { operand = d.operand; has = there d.has; apart = d.apart }

  abbrev Same : (List ℕ → List ℕ → ℕ) → List ℕ → Type 0
  Same f ss = (f c ss ≡ f c' ss) ⊎ Differs ss

  products : (ss : List ℕ) → Same (λ c ss. product_over (λ (s : ℕ). slice_index c s) ss) ss
  unfolding product_over
  products [] = inl refl
  products (s ∷ ss) = go (ℕ_discrete (slice_index c s) (slice_index c' s)) (products ss)
    where
      go : Dec (slice_index c s ≡ slice_index c' s) → Same (λ c ss. product_over (λ (s : ℕ). slice_index c s) ss) ss
          → Same (λ c ss. product_over (λ (s : ℕ). slice_index c s) ss) (s ∷ ss)
      go (no d) r = inr (record { operand = s; has = here refl; apart = d })
      go (yes e) (inl q) = inl (ap₂ (λ (x y : ℕ). x * y) e q)
      go (yes e) (inr d) = inr (differs-there d)

  sums : (ss : List ℕ) → Same (λ c ss. sum_over (λ (s : ℕ). slice_index c s) ss) ss
  unfolding sum_over
  sums [] = inl refl
  sums (s ∷ ss) = go (ℕ_discrete (slice_index c s) (slice_index c' s)) (sums ss)
    where
      go : Dec (slice_index c s ≡ slice_index c' s) → Same (λ c ss. sum_over (λ (s : ℕ). slice_index c s) ss) ss
          → Same (λ c ss. sum_over (λ (s : ℕ). slice_index c s) ss) (s ∷ ss)
      go (no d) r = inr (record { operand = s; has = here refl; apart = d })
      go (yes e) (inl q) = inl (ap₂ (λ (x y : ℕ). x + y) e q)
      go (yes e) (inr d) = inr (differs-there d)

  single : (s : ℕ) → Same (λ c ss. slice_index c s) (s ∷ [])
  single s = go (ℕ_discrete (slice_index c s) (slice_index c' s))
    where
      go : Dec (slice_index c s ≡ slice_index c' s) → Same (λ c ss. slice_index c s) (s ∷ [])
      go (no d) = inr (record { operand = s; has = here refl; apart = d })
      go (yes e) = inl e

  through : {ss : List ℕ} {a b : ℕ} (f : ℕ → ℕ) → (a ≡ b) ⊎ Differs ss → (f a ≡ f b) ⊎ Differs ss
  through f (inl e) = inl (ap f e)
  through f (inr d) = inr d

  pub value_or : (e : Expr) → (value_of c e ≡ value_of c' e) ⊎ Differs (operands_of e)
  unfolding value_of
  value_or (product ss) = products ss
  value_or (sum ss) = sums ss
  value_or (times k s) = through (λ (x : ℕ). k * x) (single s)
  value_or (quotient s k) = through (λ (x : ℕ). x / k) (single s)
