-- Products and sums that are cut at the largest size in every step are the whole ones, cut.
use Rattle.std.specs.Prelude.{ℕ, zero, suc, ◌+◌, ◌*◌, ◌/◌, ◌≤◌, ◌≡◌, refl, min, List, [], ◌∷◌, fold, slice_index}
use Rattle.std.proofs.Common.{arith, ap, sym, ◌∙◌}
use Rattle.std.proofs.Math.Nat.{mul-suc, mul_assoc, one-mul, mul-one}
use Rattle.std.proofs.Math.Decide.{dec_le}
use Rattle.counting.specs.Totals.{product_over, sum_over}
use Rattle.fixpoint.specs.Limits.{value_of, product, sum, times, quotient}
use Rattle.lowering.specs.Sizes.{product_of, sum_of, largest, capped_product, capped_sum}

cut-times : (p f : ℕ) → min largest (min largest p * f) ≡ min largest (p * f)
cut-times p zero = omega arith
cut-times p (suc f) = go (dec_le p largest)
  where
    q : ℕ
    q = min largest p

    go : Dec (p ≤ largest) → min largest (q * suc f) ≡ min largest (p * suc f)
    go (yes h) = let e : q ≡ p = omega arith in ap (λ n. min largest (n * suc f)) e
    go (no h) = omega (arith, mul-suc q f, mul-suc p f)

product-from : (c : List ℕ) (p : ℕ) (ss : List ℕ)
    → fold (λ q s. min largest (q * slice_index c s)) (min largest p) ss ≡ min largest (p * product_of c ss)
unfolding product_over
product-from c p [] = ap (min largest) (sym (mul-one p))
product-from c p (s ∷ ss) =
    ap (λ q. fold (λ q s. min largest (q * slice_index c s)) q ss) (cut-times p (slice_index c s))
    ∙ product-from c (p * slice_index c s) ss
    ∙ ap (min largest) (mul_assoc p (slice_index c s) (product_of c ss))

sum-from : (c : List ℕ) (p : ℕ) (ss : List ℕ)
    → fold (λ q s. min largest (q + slice_index c s)) (min largest p) ss ≡ min largest (p + sum_of c ss)
unfolding sum_over
sum-from c p [] = omega arith
sum-from c p (s ∷ ss) =
    let e : min largest (min largest p + slice_index c s) ≡ min largest (p + slice_index c s) = omega arith in
    ap (λ q. fold (λ q s. min largest (q + slice_index c s)) q ss) e
    ∙ sum-from c (p + slice_index c s) ss
    ∙ omega arith

pub capped-product : (c ss : List ℕ) → capped_product c ss ≡ min largest (product_of c ss)
capped-product c ss = product-from c 1 ss ∙ ap (min largest) (one-mul (product_of c ss))

pub capped-sum : (c ss : List ℕ) → capped_sum c ss ≡ min largest (sum_of c ss)
capped-sum c ss = let e : 0 + sum_of c ss ≡ sum_of c ss = omega arith in sum-from c 0 ss ∙ ap (min largest) e

-- The value of each kind of expression, cut
module _ (c : List ℕ) where
  pub value-size : (s : ℕ) → value_of c (product (s ∷ [])) ≡ slice_index c s
  unfolding value_of product_over
  value-size s = mul-one (slice_index c s)

  pub value-product : (ss : List ℕ) → min largest (value_of c (product ss)) ≡ capped_product c ss
  unfolding value_of
  value-product ss = sym (capped-product c ss)

  pub value-sum : (ss : List ℕ) → min largest (value_of c (sum ss)) ≡ capped_sum c ss
  unfolding value_of
  value-sum ss = sym (capped-sum c ss)

  pub value-times : (k s : ℕ) → value_of c (times k s) ≡ k * slice_index c s
  unfolding value_of
  value-times k s = refl

  pub value-quotient : (s k : ℕ) → value_of c (quotient s k) ≡ slice_index c s / k
  unfolding value_of
  value-quotient s k = refl

pub ruleset values = (value-size, value-product, value-sum, value-times, value-quotient)
