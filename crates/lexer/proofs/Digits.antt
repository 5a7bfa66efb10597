-- The digits of a number from a position of the text on: what is left comes to the whole.
use Rattle.std.specs.Prelude.{ℕ, suc, ◌+◌, ◌*◌, ◌^◌, ◌-◌, ◌≤◌, ◌<◌, ◌≡◌, refl, Bool, true, false, not, leb, List, ◌∷◌, length, get_or, drop}
use Rattle.std.specs.Char.{is_ascii_digit}
use Rattle.std.proofs.Common.{arith, sym, ap, subst, ◌∙◌, add-one, drop-cons, drop_of_length-le, ne_eqb, leb-true, Fits, w32}
use Rattle.std.proofs.lemmas.Bool.{not-true}
use mathlib.Core.Bool.{and-eq-true_iff}
use native.Mathlib.Nat.{one-le-pow, pow-succ', mul-le-mul, le_refl, mul_assoc}
use Rattle.orm.specs.Text.{digits, is_digit, number, Numeral, numeral, malformed}

-- ---- the value stays below a million

abbrev pub FewDigits : ℕ → ℕ → Type 0
FewDigits v left = (v + 1) * 10 ^ left ≤ 1000000

few-small : (v left : ℕ) → FewDigits v left → v < 1000000
few-small v left h =
    let p : (v + 1) * 1 ≤ (v + 1) * 10 ^ left = mul-le-mul (le_refl (v + 1)) (one-le-pow left 10 (omega arith)) in
    omega arith

pub few-times : (v left : ℕ) → FewDigits v left → Fits w32 (v * 10)
few-times v left h = record { fits = omega (arith, few-small v left h) }

pub few-plus : (v left d : ℕ) → FewDigits v left → d ≤ 9 → Fits w32 (v * 10 + d)
few-plus v left d h l = record { fits = omega (arith, few-small v left h) }

few-step : (v left d : ℕ) → FewDigits v (suc left) → d ≤ 9 → FewDigits (v * 10 + d) left
few-step v left d h l =
    let a : v * 10 + d + 1 ≤ (v + 1) * 10 = omega arith in
    let p : (v * 10 + d + 1) * 10 ^ left ≤ (v + 1) * 10 * 10 ^ left = mul-le-mul a (le_refl (10 ^ left)) in
    let q : (v + 1) * 10 * 10 ^ left ≡ (v + 1) * 10 ^ suc left =
    mul_assoc (v + 1) 10 (10 ^ left) ∙ ap (λ (k : ℕ). (v + 1) * k) (sym (pow-succ' 10 left)) in
    omega arith

-- ---- a digit

module _ {r : Bool} (b : ℕ) (e : r ≡ is_ascii_digit b) where
  pub digit-small : r ≡ true → b - 48 ≤ 9
  digit-small t =
      let h = (and-eq-true_iff (leb 48 b) (leb b 57)).0 (sym e ∙ t) in
      let k : b ≤ 57 = leb-true b 57 h.1 in
      omega arith

  yes : r ≡ true → is_digit b ≡ true
  unfolding is_digit
  yes t = sym e ∙ t

  no : not r ≡ true → is_digit b ≡ false
  unfolding is_digit
  no t = sym e ∙ not-true r t

-- ---- digits; `whole` is what those from the start on come to

module _ (s : List ℕ) (left v at : ℕ) {whole : Numeral} (w : digits left v (drop at s) ≡ whole) where
  pub digits-end : length s ≤ at → numeral v (drop (length s) s) ≡ whole
  unfolding digits
  digits-end h = rw (drop_of_length-le s {i = length s} (omega arith)) (rw (drop_of_length-le s {i = at} h) at w)

  module _ {r : Bool} (h : at < length s) (e : r ≡ is_ascii_digit (get_or s at 0)) where
    pub digits-other : not r ≡ true → numeral v (drop at s) ≡ whole
    unfolding digits
    digits-other t = rw (drop-cons s at 0 h) (rw (drop-cons s at 0 h, no (get_or s at 0) e t, digits) at w)

    pub digits-many : r ≡ true → left ≡ 0 → malformed ≡ whole
    unfolding digits
    digits-many t z = rw (z, drop-cons s at 0 h, yes (get_or s at 0) e t, digits) at w

    pub digits_more : {n : ℕ} → r ≡ true → left ≡ suc n → digits n (v * 10 + (get_or s at 0 - 48)) (drop (at + 1) s) ≡ whole
    unfolding digits
    digits_more t z = rw add-one (rw (z, drop-cons s at 0 h, yes (get_or s at 0) e t, digits) at w)

pub few-more : (v left n d : ℕ) → FewDigits v left → d ≤ 9 → left ≡ suc n → FewDigits (v * 10 + d) n
few-more v left n d f h z = few-step v n d (subst (λ k. FewDigits v k) z f) h

-- ---- a number

zero-first : (t : List ℕ) → number (48 ∷ t) ≡ digits 0 0 t
unfolding number is_digit
zero-first t = refl

other-first : (b : ℕ) (t : List ℕ) → is_digit b ≡ true → (b ≡ 48 → ⊥) → number (b ∷ t) ≡ digits 5 (b - 48) t
unfolding number
other-first b t d n = rw (d, ne_eqb b 48 n, number) refl

no-digit : (b : ℕ) (t : List ℕ) → is_digit b ≡ false → malformed ≡ number (b ∷ t)
unfolding number
no-digit b t d = rw (d, number) refl

module _ (s : List ℕ) (at : ℕ) where
  pub number-none : length s ≤ at → malformed ≡ number (drop at s)
  unfolding number
  number-none h = rw (drop_of_length-le s {i = at} h)

  module _ {r : Bool} (b : ℕ) (h : at < length s) (e : b ≡ get_or s at b) (q : r ≡ is_ascii_digit b) where
    cut_here : drop at s ≡ b ∷ drop (at + 1) s
    cut_here = drop-cons s at b h ∙ rw (← e, add-one) refl

    pub number-other : not r ≡ true → malformed ≡ number (drop at s)
    number-other t = no-digit b (drop (at + 1) s) (no b q t) ∙ ap number (sym cut_here)

    module _ {m : Numeral} (t : r ≡ true) where
      pub number-zero : b ≡ 48 → m ≡ digits 0 0 (drop (at + 1) s) → m ≡ number (drop at s)
      number-zero z w = w ∙ sym (ap number (cut_here ∙ ap (λ k. k ∷ drop (at + 1) s) z) ∙ zero-first (drop (at + 1) s))

      pub number_more : (b ≡ 48 → ⊥) → m ≡ digits 5 (b - 48) (drop (at + 1) s) → m ≡ number (drop at s)
      number_more n w = w ∙ sym (ap number cut_here ∙ other-first b (drop (at + 1) s) (yes b q t) n)
