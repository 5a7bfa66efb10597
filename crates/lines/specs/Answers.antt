-- The definitions' answers in the types of the code.
use Rattle.std.specs.Prelude.{ℕ, List}
use Rattle.std.specs.Borrow.{Bor}
use Rattle.orm.specs.LineReader.{NextLine, no_line, line_at, next_line, position_after}
use Rattle.lines.specs.declared.Line.{Line}
use Rattle.lines.specs.declared.Line.TheVariants.{At, Nothing}
use Rattle.lines.specs.declared.LineReader.{LineReader}
use Rattle.lines.specs.declared.Step.{Step}

abbrev pub line_of : NextLine → Line
line_of no_line = Nothing
line_of (line_at start n) = At start n

-- A line from an offset, and the offset past it
abbrev pub step_of : NextLine → ℕ → Step
step_of x offset = record { line = line_of x; offset = position_after x offset }

abbrev pub step_from : List ℕ → ℕ → Step
step_from text offset = step_of (next_line text offset) offset

-- A reader of the text, at its start
abbrev pub at_start : Bor (List ℕ) → LineReader
at_start text = record { text = text; offset = 0 }

-- What a reader's call makes of it: its step, and the reader past the line
abbrev pub step_in : LineReader → Step
step_in r = step_from r.text.now r.offset

abbrev pub past_line : LineReader → LineReader
past_line r = record { text = r.text; offset = (step_in r).offset }
