-- What a caller has of an answer: where a line stands, and that none is left.
use Rattle.std.specs.Prelude.{◌≡◌, refl, List, ℕ, ◌+◌, ◌<◌, length}
use Rattle.std.proofs.Common.{sym, ap, ◌∙◌, arith}
use Rattle.orm.specs.LineReader.{NextLine, no_line, line_at, next_line, position_after}
use Rattle.lines.specs.Answers.{line_of, step_from}
use Rattle.lines.specs.Laws.NextLine.{NextIs, none_left, line, next-is, line-inside}
use Rattle.lines.specs.declared.Line.{Line}
use Rattle.lines.specs.declared.Line.TheVariants.{At, Nothing}
use Rattle.lines.specs.declared.Step.{Step}

-- The line from the offset starts at p and has n bytes; its line feed stands inside the text
pub record StandsAt (text : List ℕ) (offset p n : ℕ) : Type 0 where
  pub next : next_line text offset ≡ line_at offset n
  pub start : p ≡ offset
  pub inside : p + n < length text

pub line-stands : (text : List ℕ) (offset : ℕ) {x : Line} {p n : ℕ}
    → x ≡ line_of (next_line text offset) → x ≡ At p n → StandsAt text offset p n
line-stands text offset {x} {p} {n} e f = go (next_line text offset) refl (next-is text offset) (sym f ∙ e)
  where
    go : (y : NextLine) → next_line text offset ≡ y → NextIs text offset y → At p n ≡ line_of y → StandsAt text offset p n
    go y is (none_left _) g = let z : ◌≡◌ {A = ℕ} 0 1 = cc in absurd (omega arith)
    go y is (line m r) g =
        let a : p ≡ offset = cc in
        let b : m ≡ n = cc in
        record { next = is ∙ ap (line_at offset) b; start = a; inside = omega (arith, line-inside text offset m r, a, b) }

pub line-none : (text : List ℕ) (offset : ℕ) {x : Line} → x ≡ line_of (next_line text offset) → x ≡ Nothing → next_line text offset ≡ no_line
line-none text offset {x} e f = go (next_line text offset) refl (sym f ∙ e)
  where
    go : (y : NextLine) → next_line text offset ≡ y → Nothing ≡ line_of y → next_line text offset ≡ no_line
    go no_line is g = is
    go (line_at p n) is g = let z : ◌≡◌ {A = ℕ} 0 1 = cc in absurd (omega arith)

-- The offset of a step is the one right behind the line feed
pub step_past : (text : List ℕ) (offset : ℕ) {st : Step} {p n : ℕ} → st ≡ step_from text offset → st.line ≡ At p n → st.offset ≡ p + n + 1
unfolding position_after
step_past text offset {st} {p} {n} e f = go (next_line text offset) (ap (λ (x : Step). x.line) e) (ap (λ (x : Step). x.offset) e)
  where
    go : (y : NextLine) → st.line ≡ line_of y → st.offset ≡ position_after y offset → st.offset ≡ p + n + 1
    go no_line g h = let z : ◌≡◌ {A = ℕ} 0 1 = cc in absurd (omega arith)
    go (line_at a m) g h =
        let s : p ≡ a = cc in
        let l : n ≡ m = cc in
        omega (arith, h, s, l)
