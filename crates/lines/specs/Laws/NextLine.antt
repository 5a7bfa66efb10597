-- The next line from an offset: there is none, or it starts at the offset and ends at the first line feed.
use Rattle.std.specs.Prelude.{◌≡◌, refl, List, ℕ, ◌+◌, ◌-◌, ◌≤◌, ◌<◌, length, drop}
use Rattle.std.proofs.Common.{ap, subst, arith, length-drop, drop_of_length-le}
use Rattle.std.proofs.Math.Option.{Option, none, some}
use Rattle.orm.specs.LineReader.{line_length, NextLine, no_line, line_at, next_line}
use Rattle.lines.specs.Laws.FirstLine.{Split, line_length-split}

pub data NextIs (s : List ℕ) (p : ℕ) : NextLine → Type 0 where
  none_left : line_length (drop p s) ≡ none → NextIs s p no_line
  line : (n : ℕ) → Split (drop p s) n → NextIs s p (line_at p n)

pub next-is : (s : List ℕ) (p : ℕ) → NextIs s p (next_line s p)
unfolding next_line
next-is s p = go (line_length (drop p s)) refl
  where
    go : (o : Option ℕ) → line_length (drop p s) ≡ o → NextIs s p (elim o [ none ↦ no_line | some n ↦ line_at p n ])
    go none e = none_left e
    go (some n) e = line n (line_length-split (drop p s) e)

-- The line feed stands inside the text
pub line-inside : (s : List ℕ) (p n : ℕ) → Split (drop p s) n → p + n < length s
line-inside s p n r =
    let l : n < length s - p = subst (λ (k : ℕ). n < k) (length-drop p s) r.inside in
    omega arith

-- From the end on, and past it, no line is left
pub next-past-end : (s : List ℕ) (p : ℕ) → length s ≤ p → next_line s p ≡ no_line
unfolding next_line line_length
next-past-end s p past =
    ap (λ (r : List ℕ). elim (line_length r) [ none ↦ no_line | some n ↦ line_at p n ]) (drop_of_length-le s past)
