-- A key or a separator at a position of the text.
use Rattle.std.specs.Prelude.{ℕ, zero, suc, ◌+◌, ◌≤◌, ◌<◌, ◌≡◌, refl, Bool, true, false, ◌&&◌, List, [], ◌∷◌, ◌++◌, eqb, length, get_or, drop}
use Rattle.std.proofs.Common.{arith, sym, ◌∙◌, add-one, drop-cons, drop-drop, drop_of_length-le, eq-eqb, ne_eqb, take_all, length-drop}
use Rattle.std.specs.List.{starts_with, slice_range}
use Rattle.std.proofs.Math.Option.{Option as Rest, none, some}
use Rattle.orm.specs.Text.{bytes, key, after, separator}
use Rattle.lexer.specs.declared.Kind.{Kind}
use Rattle.lexer.specs.declared.Kind.TheVariants.{DiagramLine, TypesLine, TypeLine, PredsLine, PredLine, RoleLine, LimitedRoleLine, FreqLine, EndLine}
use Rattle.lexer.specs.Cuts.{kind_of, key_of}

-- ---- a key

found-if : (key t : List ℕ) → after key t ≡ elim (starts_with eqb t key) as (λ _. Rest (List ℕ)) [ true ↦ some (drop (length key) t) | false ↦ none ]
unfolding after
found-if [] t = refl
found-if (p ∷ ps) [] = refl
found-if (p ∷ ps) (b ∷ t) = go (eqb p b) (found-if ps t)
  where
    go : (x : Bool) → after ps t ≡ elim (starts_with eqb t ps) as (λ _. Rest (List ℕ)) [ true ↦ some (drop (length ps) t) | false ↦ none ]
        → elim x as (λ _. Rest (List ℕ)) [ false ↦ none | true ↦ after ps t ]
        ≡ elim (x && starts_with eqb t ps) as (λ _. Rest (List ℕ)) [ true ↦ some (drop (length ps) t) | false ↦ none ]
    go true e = e
    go false e = refl

-- the text from a position on
module _ (s : List ℕ) (at : ℕ) {t : List ℕ} (e : t ≡ slice_range s at (length s)) where
  whole : t ≡ drop at s
  whole = e ∙ take_all _ (drop at s) (omega (arith, length-drop at s))

  pub found-there : (key : List ℕ) → true ≡ starts_with eqb t key → some (drop (at + length key) s) ≡ after key (drop at s)
  found-there key b = rw (← drop-drop (length key) at s, ← whole) (sym (found-if key t ∙ rw (sym b) refl))

  pub found-other : (key : List ℕ) → false ≡ starts_with eqb t key → none ≡ after key (drop at s)
  found-other key b = rw (← whole) (sym (found-if key t ∙ rw (sym b) refl))

pub found-behind : (s key : List ℕ) (at : ℕ) → length s < at → 0 < length key → none ≡ after key (drop at s)
unfolding after
found-behind s [] at h k = absurd (omega arith)
found-behind s (p ∷ ps) at h k = rw (drop_of_length-le s {i = at} (omega arith), after)

-- ---- a separator

pub line_feed : (left : ℕ) → left ≡ 0 → 10 ≡ separator left
unfolding separator
line_feed left e = rw e refl

pub comma : (left : ℕ) → (left ≡ 0 → ⊥) → 44 ≡ separator left
unfolding separator
comma zero n = absurd (n refl)
comma (suc left) n = refl

module _ (s : List ℕ) (at c : ℕ) where
  pub byte-behind : length s ≤ at → none ≡ after (c ∷ []) (drop at s)
  unfolding after
  byte-behind h = rw (drop_of_length-le s {i = at} h)

  module _ (x : ℕ) (h : at < length s) (e : x ≡ get_or s at x) where
    pub byte-there : x ≡ c → some (drop (at + 1) s) ≡ after (c ∷ []) (drop at s)
    unfolding after
    byte-there q = rw (drop-cons s at x h, eq-eqb c (get_or s at x) (sym q ∙ e), add-one, after) refl

    pub byte-other : (x ≡ c → ⊥) → none ≡ after (c ∷ []) (drop at s)
    unfolding after
    byte-other n = rw (drop-cons s at x h, ne_eqb c (get_or s at x) (λ q. n (e ∙ sym q)), after) refl

pub key-is : (k : Kind) → bytes (key (kind_of k)) ++ 61 ∷ [] ≡ key_of k
unfolding bytes key
key-is DiagramLine = refl
key-is TypesLine = refl
key-is TypeLine = refl
key-is PredsLine = refl
key-is PredLine = refl
key-is RoleLine = refl
key-is LimitedRoleLine = refl
key-is FreqLine = refl
key-is EndLine = refl
