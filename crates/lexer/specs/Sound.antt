-- The numbers of a line that is cut off are all those before a fault.
use Rattle.std.specs.Prelude.{ℕ, zero, suc, refl, List, [], ◌∷◌, ◌++◌, Option, Some, None, drop}
use Rattle.std.proofs.Common.{arith, sym}
use Rattle.std.proofs.Math.Path.{◌≡◌}
use Rattle.std.proofs.Math.Option.{Option as Rest, none, some}
use Rattle.orm.specs.Diagram.{LineKind}
use Rattle.orm.specs.Form.{fields}
use Rattle.orm.specs.Reader.{Cut, broken, cut}
use Rattle.orm.specs.Text.{bytes, key, number, after, separator, numbers, text_line, Numeral, malformed, numeral}
use Rattle.lexer.specs.Cuts.{rest_of, rest_in, sound_numbers, line_numbers}
use Rattle.lexer.specs.Tails.{Tail, tail_all, tail_more, after_tail, number-tail}

pub record Sound (n : ℕ) (t vs rest : List ℕ) : Type 0 where
  pub tail : Tail rest t
  pub all : sound_numbers n t ≡ vs

-- one number and what follows it, then what is so of the n numbers behind it
module _ (n : ℕ) (ih : (t vs rest : List ℕ) → numbers n t ≡ cut vs rest → Sound n t vs rest) (t vs rest : List ℕ) where
  behind-separator : (v : ℕ) (t₁ t₂ : List ℕ) → number t ≡ numeral v t₁ → after (separator n ∷ []) t₁ ≡ some t₂
      → (c : Cut) → numbers n t₂ ≡ c → elim c as (λ _. Cut) [ broken ↦ broken | cut us r ↦ cut (v ∷ us) r ] ≡ cut vs rest
      → Sound (suc n) t vs rest
  unfolding sound_numbers
  behind-separator v t₁ t₂ p q broken c e = let z : ◌≡◌ {A = ℕ} 0 1 = cc in absurd (omega arith)
  behind-separator v t₁ t₂ p q (cut us r) c e =
      let h : Sound n t₂ us r = ih t₂ us r c in
      let w : r ≡ rest = cc in
      let x : v ∷ us ≡ vs = cc in
      record {
        tail = rw (← w) (tail_more h.tail (tail_more (after_tail (separator n ∷ []) t₁ t₂ q) (number-tail t v t₁ p)));
        all = rw (sound_numbers, p, q, h.all) x;
      }

  behind-number : (v : ℕ) (t₁ : List ℕ) → number t ≡ numeral v t₁ → (o : Rest (List ℕ)) → after (separator n ∷ []) t₁ ≡ o
      → elim o as (λ _. Cut) [ none ↦ broken | some t₂ ↦ elim (numbers n t₂) [ broken ↦ broken | cut us r ↦ cut (v ∷ us) r ] ]
      ≡ cut vs rest → Sound (suc n) t vs rest
  behind-number v t₁ p none q e = let z : ◌≡◌ {A = ℕ} 0 1 = cc in absurd (omega arith)
  behind-number v t₁ p (some t₂) q e = behind-separator v t₁ t₂ p q (numbers n t₂) refl e

  one_more : (m : Numeral) → number t ≡ m
      → elim m as (λ _. Cut) [
        | malformed ↦ broken
        | numeral v t₁ ↦
            elim (after (separator n ∷ []) t₁) [
              | none ↦ broken
              | some t₂ ↦ elim (numbers n t₂) [ broken ↦ broken | cut us r ↦ cut (v ∷ us) r ]
            ]
      ] ≡ cut vs rest → Sound (suc n) t vs rest
  one_more malformed p e = let z : ◌≡◌ {A = ℕ} 0 1 = cc in absurd (omega arith)
  one_more (numeral v t₁) p e = behind-number v t₁ p (after (separator n ∷ []) t₁) refl e

pub numbers-sound : (n : ℕ) (t vs rest : List ℕ) → numbers n t ≡ cut vs rest → Sound n t vs rest
unfolding numbers sound_numbers
numbers-sound zero t vs rest e =
    let q : t ≡ rest = cc in
    let p : [] ≡ vs = cc in
    record { tail = rw q (tail_all rest); all = p }
numbers-sound (suc n) t vs rest e = one_more n (numbers-sound n) t vs rest (number t) refl e

-- ---- a line

pub line-sound : (k : LineKind) (t vs rest : List ℕ) → text_line k t ≡ cut vs rest → (line_numbers k t ≡ vs) × Tail rest t
unfolding text_line line_numbers
line-sound k t vs rest e = go (after (bytes (key k) ++ 61 ∷ []) t) refl e
  where
    go : (o : Rest (List ℕ)) → after (bytes (key k) ++ 61 ∷ []) t ≡ o
        → elim o as (λ _. Cut) [ none ↦ broken | some t' ↦ numbers (fields k) t' ] ≡ cut vs rest
        → (elim o as (λ _. List ℕ) [ none ↦ [] | some t' ↦ sound_numbers (fields k) t' ] ≡ vs) × Tail rest t
    go none p q = let z : ◌≡◌ {A = ℕ} 0 1 = cc in absurd (omega arith)
    go (some t') p q =
        let h : Sound (fields k) t' vs rest = numbers-sound (fields k) t' vs rest q in
        (h.all, tail_more h.tail (after_tail (bytes (key k) ++ 61 ∷ []) t t' p))

module _ (s : List ℕ) (k : LineKind) (t : List ℕ) {r : Option ℕ} (w : rest_of s r ≡ rest_in (text_line k t)) where
  -- a line that ends somewhere, with its numbers
  pub line-to : {next : ℕ} → r ≡ Some next → text_line k t ≡ cut (line_numbers k t) (drop next s)
  line-to {next} e = go (text_line k t) (line-sound k t) (sym (rw e at w))
    where
      go : (c : Cut) → ((vs rest : List ℕ) → c ≡ cut vs rest → (line_numbers k t ≡ vs) × Tail rest t) → rest_in c ≡ some (drop next s)
          → c ≡ cut (line_numbers k t) (drop next s)
      go broken f q = let z : ◌≡◌ {A = ℕ} 0 1 = cc in absurd (omega arith)
      go (cut vs rest) f q = let x : rest ≡ drop next s = cc in rw ((f vs rest refl).0, x) refl

  pub line-not : r ≡ None → text_line k t ≡ broken
  line-not e = go (text_line k t) (sym (rw e at w))
    where
      go : (c : Cut) → rest_in c ≡ none → c ≡ broken
      go broken q = refl
      go (cut vs rest) q = let z : ◌≡◌ {A = ℕ} 0 1 = cc in absurd (omega arith)
