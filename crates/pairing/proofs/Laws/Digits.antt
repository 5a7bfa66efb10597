-- The rows of an enumeration without end, in closed form.
-- With `p` the product of the sizes before a set of `t`, its index in row `i` is that of pair `i`, counted modulo the `p * t` pairs.
use Rattle.std.specs.Prelude.{ℕ, zero, suc, ◌+◌, ◌*◌, ◌%◌, ◌<◌, ◌≡◌, refl, List, [], ◌∷◌, length, get_or}
use Rattle.std.proofs.Common.{sym, ◌∙◌, ap, not-suc-le-zero, le_of_suc-le-suc, mul-pos, mul_assoc, mul-one, mod-lt, mod-eq_of_lt, arith}
use Rattle.std.proofs.Math.Nat.{mod-mod, mod-mod_of_dvd, dvd-mul_right}
use Rattle.std.proofs.Math.Arith.{digits_div, digits_mod, mod-mul}
use Rattle.counting.specs.Totals.{product_over}
use Rattle.counting.specs.Terms.{Each}
use Rattle.counting.proofs.Laws.Members.{each-head, each_tail}
use Rattle.pairing.specs.Pairing.{left_of, right_of}
use Rattle.pairing.specs.Notions.{Walk, product}
use Rattle.pairing.proofs.Laws.Pair.{pair_inj, right_of-walk}

unfoldable pub digit : ℕ → ℕ → ℕ → ℕ
digit p t i = right_of p t (i % (p * t))

unfoldable pub digits : ℕ → List ℕ → ℕ → List ℕ
digits p [] i = []
digits p (t ∷ ts) i = digit p t i ∷ digits (p * t) ts i

pub digit-below : (p t i : ℕ) → i < p * t → digit p t i ≡ right_of p t i
unfolding digit
digit-below p t i h = ap (right_of p t) (mod-eq_of_lt h)

pub digit_mod : (p t i : ℕ) → digit p t (i % (p * t)) ≡ digit p t i
unfolding digit
digit_mod p t i = rw mod-mod

digit_inj : (p t i j : ℕ) → 0 < p → 0 < t → i % p ≡ j % p → digit p t i ≡ digit p t j → i % (p * t) ≡ j % (p * t)
unfolding digit left_of
digit_inj p t i j hp ht e h =
    let below : (k : ℕ) → k % (p * t) < p * t = λ k. mod-lt k (mul-pos hp ht) in
    let coarse : (k : ℕ) → k % (p * t) % p ≡ k % p = λ k. mod-mod_of_dvd p k (dvd-mul_right p t) in
    pair_inj p t (i % (p * t)) (j % (p * t)) (below i) (below j) (coarse i ∙ e ∙ sym (coarse j)) h

digit-walk : (p t : ℕ) → 0 < p → Walk t (digit p t)
unfolding digit
digit-walk p t hp = record { start = λ q. w.start (q % p); step = λ q i h. rw (place q i h) (w.step (q % p) i h) }
  where
    w : Walk t (right_of p t)
    w = right_of-walk p t

    place : (q i : ℕ) → i < t → (q * t + i) % (p * t) ≡ q % p * t + i
    place q i h = mod-mul (q * t + i) hp (omega arith) ∙ rw (digits_div q h, digits_mod q h)

pub digits-length : (p : ℕ) (ts : List ℕ) (i : ℕ) → length (digits p ts i) ≡ length ts
unfolding digits
digits-length p [] i = refl
digits-length p (t ∷ ts) i = ap suc (digits-length (p * t) ts i)

pub digits-walk : (p : ℕ) (ts : List ℕ) (k : ℕ) → 0 < p → Each (0 <◌) ts → k < length ts → Walk (get_or ts k 0) (λ i. get_or (digits p ts i) k 0)
unfolding digits
digits-walk p [] k hp h l = absurd (not-suc-le-zero l)
digits-walk p (t ∷ ts) zero hp h l = digit-walk p t hp
digits-walk p (t ∷ ts) (suc k) hp h l = digits-walk (p * t) ts k (mul-pos hp (each-head _ h)) (each_tail _ h) (le_of_suc-le-suc l)

pub digits_inj : (p : ℕ) (ts : List ℕ) (i j : ℕ)
    → 0 < p → Each (0 <◌) ts → i % p ≡ j % p → digits p ts i ≡ digits p ts j → i % (p * product ts) ≡ j % (p * product ts)
unfolding digits product_over
digits_inj p [] i j hp h e r = rw mul-one e
digits_inj p (t ∷ ts) i j hp h e r =
    rw (← mul_assoc p t (product ts))
    (digits_inj (p * t) ts i j (mul-pos hp (each-head _ h)) (each_tail _ h) (digit_inj p t i j hp (each-head _ h) e (cc)) (cc))
