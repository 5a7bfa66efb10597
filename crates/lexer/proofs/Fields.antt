-- The numbers of a line: those so far, and those that follow the position at hand, come to the whole line.
use Rattle.std.specs.Prelude.{ℕ, suc, ◌+◌, ◌-◌, ◌≤◌, ◌<◌, ◌≡◌, refl, List, [], ◌∷◌, drop, set}
use Rattle.std.proofs.Common.{arith, add-one, sym, ◌∙◌}
use Rattle.std.proofs.Math.Option.{Option as Rest, none, some}
use Rattle.std.proofs.lemmas.List.Edits.{sets}
use Rattle.orm.specs.Reader.{Cut, broken, cut}
use Rattle.orm.specs.Form.{fields, ranges}
use Rattle.orm.specs.Text.{number, after, separator, numbers, text_line, malformed, numeral}
use Rattle.lexer.specs.declared.Kind.{Kind}
use Rattle.lexer.specs.declared.Kind.TheVariants.{DiagramLine, TypesLine, TypeLine, PredsLine, PredLine, RoleLine, LimitedRoleLine, FreqLine, EndLine}
use Rattle.lexer.specs.Cuts.{rest_in, kind_of, key_of, fields_of, sound_numbers, line_numbers}
use Rattle.lexer.proofs.Prefixes.{key-is}

-- What is left of the line ends where all of it does, and completes the numbers in `out`
pub record Numbers (s : List ℕ) (n start i at : ℕ) (out₀ out : List ℕ) : Type 0 where
  pub position : rest_in (numbers (n - i) (drop at s)) ≡ rest_in (numbers n (drop start s))
  pub stored : sets out i (sound_numbers (n - i) (drop at s)) ≡ sets out₀ 0 (sound_numbers n (drop start s))

pub numbers-start : (s : List ℕ) (n start : ℕ) (out : List ℕ) → Numbers s n start 0 start out out
numbers-start s n start out = let p : n - 0 ≡ n = omega arith in record { position = rw p refl; stored = rw p refl }

-- the numbers behind the first
rest_on : (v : ℕ) (c : Cut) → rest_in (elim c as (λ _. Cut) [ broken ↦ broken | cut vs rest ↦ cut (v ∷ vs) rest ]) ≡ rest_in c
rest_on v broken = refl
rest_on v (cut vs rest) = refl

module _ (s : List ℕ) (n start i at : ℕ) (out₀ out : List ℕ) (w : Numbers s n start i at out₀ out) where
  one_left : i < n → n - i ≡ suc (n - i - 1)
  one_left h = omega arith

  pub numbers-end : n ≤ i → some (drop at s) ≡ rest_in (numbers n (drop start s))
  unfolding numbers
  numbers-end h = let p : n - i ≡ 0 = omega arith in rw p at w.position

  pub stored-end : n ≤ i → out ≡ sets out₀ 0 (sound_numbers n (drop start s))
  unfolding sound_numbers
  stored-end h = let p : n - i ≡ 0 = omega arith in rw p at w.stored

  module _ (h : i < n) where
    pub numbers-malformed : malformed ≡ number (drop at s) → none ≡ rest_in (numbers n (drop start s))
    unfolding numbers
    numbers-malformed e = rw (one_left h, ← e, numbers) at w.position

    pub stored-malformed : malformed ≡ number (drop at s) → out ≡ sets out₀ 0 (sound_numbers n (drop start s))
    unfolding sound_numbers
    stored-malformed e = rw (one_left h, ← e, sound_numbers) at w.stored

    module _ (v end : ℕ) (e : numeral v (drop end s) ≡ number (drop at s)) where
      pub numbers-unended : none ≡ after (separator (n - i - 1) ∷ []) (drop end s) → none ≡ rest_in (numbers n (drop start s))
      unfolding numbers
      numbers-unended f = rw (one_left h, ← e, numbers, ← f) at w.position

      pub stored-unended : none ≡ after (separator (n - i - 1) ∷ []) (drop end s) → out ≡ sets out₀ 0 (sound_numbers n (drop start s))
      unfolding sound_numbers
      stored-unended f = rw (one_left h, ← e, sound_numbers, ← f) at w.stored

      pub numbers_more : (next : ℕ) → some (drop next s) ≡ after (separator (n - i - 1) ∷ []) (drop end s)
          → Numbers s n start (i + 1) next out₀ (set out i v)
      unfolding numbers sound_numbers
      numbers_more next f =
          let k : n - (i + 1) ≡ n - i - 1 = omega arith in
          record {
            position = rw k (sym (rest_on v (numbers (n - i - 1) (drop next s))) ∙ (rw (one_left h, ← e, numbers, ← f) at w.position));
            stored = rw (k, add-one) (rw (one_left h, ← e, sound_numbers, ← f) at w.stored);
          }

-- ---- the line of a kind

pub fields-is : (k : Kind) → fields (kind_of k) ≡ fields_of k
unfolding fields ranges
fields-is DiagramLine = refl
fields-is TypesLine = refl
fields-is TypeLine = refl
fields-is PredsLine = refl
fields-is PredLine = refl
fields-is RoleLine = refl
fields-is LimitedRoleLine = refl
fields-is FreqLine = refl
fields-is EndLine = refl

module _ (k : Kind) (s : List ℕ) (at : ℕ) where
  pub line-none : none ≡ after (key_of k) (drop at s) → none ≡ rest_in (text_line (kind_of k) (drop at s))
  unfolding text_line
  line-none e = rw (key-is k, ← e, text_line)

  pub stored-none : (out : List ℕ) → none ≡ after (key_of k) (drop at s) → out ≡ sets out 0 (line_numbers (kind_of k) (drop at s))
  unfolding line_numbers
  stored-none out e = rw (key-is k, ← e, line_numbers)

  module _ (values : ℕ) {n : ℕ} (e : some (drop values s) ≡ after (key_of k) (drop at s)) (m : n ≡ fields_of k) where
    pub line-some : {r : Rest (List ℕ)} → r ≡ rest_in (numbers n (drop values s)) → r ≡ rest_in (text_line (kind_of k) (drop at s))
    unfolding text_line
    line-some w = rw (key-is k, ← e, text_line, fields-is k, ← m) w

    pub stored_some : (out : List ℕ) {out' : List ℕ} → out' ≡ sets out 0 (sound_numbers n (drop values s))
        → out' ≡ sets out 0 (line_numbers (kind_of k) (drop at s))
    unfolding line_numbers
    stored_some out w = rw (key-is k, ← e, line_numbers, fields-is k, ← m) w
