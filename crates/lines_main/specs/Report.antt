-- What the program prints of a text: `line=START,LENGTH` for each line, and `left=START,LENGTH` for what is left.
use Rattle.std.specs.Prelude.{ℕ, zero, suc, ◌-◌, List, [], ◌∷◌, ◌++◌, length}
use Rattle.orm.specs.LineReader.{no_line, line_at, next_line, position_after}
use Rattle.orm.specs.Text.{values_text, line_text}

-- `key=START,LENGTH`
unfoldable pub entry : List ℕ → ℕ → ℕ → List ℕ
entry key start n = key ++ 61 ∷ values_text (start ∷ n ∷ [])

unfoldable pub left_text : List ℕ → ℕ → List ℕ
left_text text offset = line_text "left" (offset ∷ (length text - offset) ∷ [])

-- From an offset on, by at most k calls of the line reader
unfoldable pub report_within : ℕ → List ℕ → ℕ → List ℕ
report_within zero text offset = left_text text offset
report_within (suc k) text offset =
    elim (next_line text offset) [
      | no_line ↦ left_text text offset
      | line_at start n ↦ line_text "line" (start ∷ n ∷ []) ++ report_within k text (position_after (line_at start n) offset)
    ]

-- As many calls as bytes are enough
unfoldable pub report : List ℕ → List ℕ
report text = report_within (length text) text 0
