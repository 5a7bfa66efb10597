-- The law of the line reader: the lines given one after another, each with its line feed, and what is left, are the text.
use Rattle.std.specs.Prelude.{◌≡◌, refl, List, [], ◌∷◌, ◌++◌, ℕ, zero, suc, ◌+◌, ◌≤◌, length, take, drop}
use Rattle.std.proofs.Common.{sym, ap, ◌∙◌, append_assoc, arith, drop-drop}
use Rattle.counting.specs.Terms.{Each}
use Rattle.counting.proofs.Laws.Members.{each_nil, each-cons}
use Rattle.orm.specs.LineReader.{NextLine, no_line, line_at, next_line, position_after}
use Rattle.lines.specs.Answers.{past_line}
use Rattle.lines.specs.Calls.{lines_read, offset_after, after_calls, unlines, HasNoLineFeed, LinesAreText}
use Rattle.lines.specs.declared.LineReader.{LineReader}
use Rattle.lines.specs.Laws.NextLine.{NextIs, none_left, line, next-is, next-past-end}

-- What one call adds to the lines of k more
abbrev add : ℕ → List ℕ → ℕ → NextLine → List (List ℕ)
add k s p y = elim y [ no_line ↦ [] | line_at start n ↦ take n (drop start s) ∷ lines_read k s (position_after (line_at start n) p) ]

-- Where no line feed is left the reader stays
stays : (k : ℕ) (s : List ℕ) (p : ℕ) → next_line s p ≡ no_line → offset_after k s p ≡ p
unfolding offset_after position_after
stays zero s p e = refl
stays (suc k) s p e = ap (λ (y : NextLine). offset_after k s (position_after y p)) e ∙ stays k s p e

lines-whole : (k : ℕ) (s : List ℕ) (p : ℕ) → unlines (lines_read k s p) ++ drop (offset_after k s p) s ≡ drop p s
unfolding lines_read offset_after unlines position_after
lines-whole zero s p = refl
lines-whole (suc k) s p = go (next_line s p) refl (next-is s p) (λ r. lines-whole k s r)
  where
    go : (y : NextLine) → next_line s p ≡ y → NextIs s p y
        → ((r : ℕ) → unlines (lines_read k s r) ++ drop (offset_after k s r) s ≡ drop r s)
        → unlines (add k s p y) ++ drop (offset_after k s (position_after y p)) s ≡ drop p s
    go y e (none_left f) ih = ap (λ (r : ℕ). drop r s) (stays k s p e)
    go y e (line n r) ih =
        let f : p + n + 1 ≡ p + suc n = omega arith in
        append_assoc (take n (drop p s)) (10 ∷ unlines (lines_read k s (p + n + 1))) (drop (offset_after k s (p + n + 1)) s)
        ∙ ap (λ (l : List ℕ). take n (drop p s) ++ 10 ∷ l)
        (ih (p + n + 1) ∙ ap (λ (m : ℕ). drop m s) f ∙ sym (drop-drop (suc n) p s))
        ∙ r.whole

lines-each : (k : ℕ) (s : List ℕ) (p : ℕ) → Each HasNoLineFeed (lines_read k s p)
unfolding lines_read
lines-each zero s p = each_nil HasNoLineFeed
lines-each (suc k) s p = go (next_line s p) (next-is s p) (λ r. lines-each k s r)
  where
    go : (y : NextLine) → NextIs s p y → ((r : ℕ) → Each HasNoLineFeed (lines_read k s r)) → Each HasNoLineFeed (add k s p y)
    go y (none_left f) ih = each_nil HasNoLineFeed
    go y (line n r) ih = each-cons HasNoLineFeed r.one_line (ih _)

lines-none-left : (k : ℕ) (s : List ℕ) (p : ℕ) → length s ≤ p + k → next_line s (offset_after k s p) ≡ no_line
unfolding offset_after position_after
lines-none-left zero s p far = next-past-end s p (omega arith)
lines-none-left (suc k) s p far = go (next_line s p) refl (next-is s p) (λ r f. lines-none-left k s r f)
  where
    go : (y : NextLine) → next_line s p ≡ y → NextIs s p y
        → ((r : ℕ) → length s ≤ r + k → next_line s (offset_after k s r) ≡ no_line)
        → next_line s (offset_after k s (position_after y p)) ≡ no_line
    go y e (none_left f) ih = ap (next_line s) (stays k s p e) ∙ e
    go y e (line n r) ih = ih (p + n + 1) (omega arith)

-- For every text, offset and number of calls
pub lines-are-text-from : (k : ℕ) (text : List ℕ) (offset : ℕ) → LinesAreText k text offset
lines-are-text-from k text offset = record {
  whole = lines-whole k text offset;
  each_is_one_line = lines-each k text offset;
  none_is_left = lines-none-left k text offset;
}

-- From the start, where a new reader stands
pub lines-are-text : (k : ℕ) (text : List ℕ)
    → unlines (lines_read k text 0) ++ drop (offset_after k text 0) text ≡ text
lines-are-text k text = (lines-are-text-from k text 0).whole

-- A reader after k calls of `next`
pub after-calls : (k : ℕ) (r : LineReader) → after_calls k r ≡ record { text = r.text; offset = offset_after k r.text.now r.offset }
unfolding after_calls offset_after
after-calls zero r = refl
after-calls (suc k) r = after-calls k (past_line r)
