-- Laws that the covered functions' proofs cite: the search for the next line feed, and the step past a line.
use mathlib.Core.Path.{◌≡◌, refl, sym, ap, ◌∙◌}
use mathlib.Core.Option.{Option, none, some}
use mathlib.Core.List.{List}
use Prim.Native.Nat.{ℕ, suc, ◌+◌, ◌-◌, ◌≤◌, ◌<◌}
use native.Mathlib.Omega.{arith}
use native.Mathlib.Numerals.{add-one}
use borrow.Author.Tests.{eq-eqb, ne_eqb}
use lib.ListN.{length, get_or, drop, drop_of_length-le}
use lib.Seq.{drop-cons}
use Rattle.orm.specs.LineReader.{line_length, NextLine, no_line, line_at, next_line, position_after}
use Rattle.lines.specs.Answers.{line_of, step_of}
use Rattle.lines.specs.Laws.FirstLine.{more, line_length_feed, line_length-other}
use Rattle.lines.specs.declared.Line.{Line}
use Rattle.lines.specs.declared.Line.TheVariants.{At, Nothing}

-- The next line from an offset, of which k bytes were passed and found to be no line feed
abbrev told : ℕ → ℕ → Option ℕ → NextLine
told offset k none = no_line
told offset k (some n) = line_at offset (k + n)

-- From the offset to i no byte is a line feed: the search from i gives the line from the offset
pub record Passed (s : List ℕ) (offset i : ℕ) : Type 0 where
  pub is : told offset (i - offset) (line_length (drop i s)) ≡ next_line s offset

pub passed_none : (s : List ℕ) (offset : ℕ) → Passed s offset offset
unfolding next_line
passed_none s offset = record { is = go (line_length (drop offset s)) }
  where
    go : (o : Option ℕ) → told offset (offset - offset) o ≡ elim o [ none ↦ no_line | some n ↦ line_at offset n ]
    go none = refl
    go (some n) = let e : offset - offset + n ≡ n = omega arith in ap (line_at offset) e

feed_at : (s : List ℕ) (i : ℕ) → i < length s → get_or s i 0 ≡ 10 → line_length (drop i s) ≡ some 0
feed_at s i inside is =
    ap line_length (drop-cons s i 0 inside) ∙ line_length_feed _ (drop (suc i) s) (eq-eqb (get_or s i 0) 10 is)

other_at : (s : List ℕ) (i : ℕ) → i < length s → (get_or s i 0 ≡ 10 → ⊥)
    → line_length (drop i s) ≡ more (line_length (drop (i + 1) s))
other_at s i inside isnt =
    ap line_length (drop-cons s i 0 inside)
    ∙ line_length-other _ (drop (suc i) s) (ne_eqb (get_or s i 0) 10 isnt)
    ∙ ap (λ (k : ℕ). more (line_length (drop k s))) (sym (add-one i))

pub passed-more : (s : List ℕ) (offset i : ℕ) → i < length s → (get_or s i 0 ≡ 10 → ⊥) → offset ≤ i
    → Passed s offset i → Passed s offset (i + 1)
passed-more s offset i inside isnt from p = record {
  is = go (line_length (drop (i + 1) s)) ∙ ap (told offset (i - offset)) (sym (other_at s i inside isnt)) ∙ p.is;
}
  where
    go : (o : Option ℕ) → told offset (i + 1 - offset) o ≡ told offset (i - offset) (more o)
    go none = refl
    go (some n) = let e : i + 1 - offset + n ≡ i - offset + suc n = omega arith in ap (line_at offset) e

pub passed-to_feed : (s : List ℕ) (offset i : ℕ) → i < length s → get_or s i 0 ≡ 10 → Passed s offset i
    → At offset (i - offset) ≡ line_of (next_line s offset)
passed-to_feed s offset i inside is p =
    let e : i - offset ≡ i - offset + 0 = omega arith in
    ap (At offset) e ∙ ap line_of (ap (told offset (i - offset)) (sym (feed_at s i inside is)) ∙ p.is)

pub passed-all : (s : List ℕ) (offset i : ℕ) → length s ≤ i → Passed s offset i → Nothing ≡ line_of (next_line s offset)
unfolding line_length
passed-all s offset i past p =
    ap line_of (ap (told offset (i - offset)) (ap line_length (sym (drop_of_length-le s past))) ∙ p.is)

-- ---- the step past a line

pub steps : {x : Line} {p n : ℕ} (y : NextLine) (offset : ℕ) → x ≡ line_of y → x ≡ At p n
    → record { line = At p n; offset = p + n + 1 } ≡ step_of y offset
unfolding position_after
steps no_line offset e f = let z : ◌≡◌ {A = ℕ} 0 1 = cc in absurd (omega arith)
steps (line_at a m) offset e f = cc

pub stays : {x : Line} (y : NextLine) (offset : ℕ) → x ≡ line_of y → x ≡ Nothing
    → record { line = x; offset = offset } ≡ step_of y offset
unfolding position_after
stays no_line offset e f = cc
stays (line_at a m) offset e f = let z : ◌≡◌ {A = ℕ} 0 1 = cc in absurd (omega arith)
