-- What a line reader gives in so many calls, one after another, and what those lines are to the text.
use Rattle.std.specs.Prelude.{ℕ, zero, suc, ◌+◌, ◌≤◌, ◌≡◌, List, [], ◌∷◌, ◌++◌, length, take, drop}
use Rattle.std.proofs.Math.Option.{none}
use Rattle.counting.specs.Terms.{Each}
use Rattle.orm.specs.LineReader.{line_length, no_line, line_at, next_line, position_after}
use Rattle.lines.specs.Answers.{past_line}
use Rattle.lines.specs.declared.LineReader.{LineReader}

-- The lines that k calls give
unfoldable pub lines_read : ℕ → List ℕ → ℕ → List (List ℕ)
lines_read zero text offset = []
lines_read (suc k) text offset =
    elim (next_line text offset) [
      | no_line ↦ []
      | line_at start n ↦ take n (drop start text) ∷ lines_read k text (position_after (line_at start n) offset)
    ]

-- The offset after k calls
unfoldable pub offset_after : ℕ → List ℕ → ℕ → ℕ
offset_after zero text offset = offset
offset_after (suc k) text offset = offset_after k text (position_after (next_line text offset) offset)

-- The reader after k calls
unfoldable pub after_calls : ℕ → LineReader → LineReader
after_calls zero r = r
after_calls (suc k) r = after_calls k (past_line r)

-- Lines one after another, each with its line feed
unfoldable pub unlines : List (List ℕ) → List ℕ
unlines [] = []
unlines (l ∷ ls) = l ++ 10 ∷ unlines ls

abbrev pub HasNoLineFeed : List ℕ → Type 0
HasNoLineFeed s = line_length s ≡ none

-- What k calls from an offset give of a text
pub record LinesAreText (k : ℕ) (text : List ℕ) (offset : ℕ) : Type 0 where
  -- the lines, each with its line feed, and what is left are the text from the offset on
  pub whole : unlines (lines_read k text offset) ++ drop (offset_after k text offset) text ≡ drop offset text
  pub each_is_one_line : Each HasNoLineFeed (lines_read k text offset)
  -- after as many calls as bytes no line is left
  pub none_is_left : length text ≤ offset + k → next_line text (offset_after k text offset) ≡ no_line
