-- What is printed of a text and of a table, by the steps of document 01's program.
use Rattle.std.specs.Prelude.{ℕ, List, [], ◌∷◌}
use Rattle.orm.specs.Diagram.{Diagram}
use Rattle.orm.specs.Text.{line_text, text_line, table_line}
use Rattle.orm.specs.Population.{cells}
use Rattle.orm.specs.Populate.{population}
use Rattle.orm.specs.Outcome.{Outcome, ◌>>=◌, fitted, accepted}
use Rattle.orm.specs.Calls.{diagram_in, sizes_of}
use Rattle.orm.specs.Program.{report, output}
use Rattle.refusals.specs.Refusal.{number_of, place_of, round_of}
use Rattle.refusals.specs.declared.Refusal.{Refusal}

unfoldable pub refusal_line : ℕ → ℕ → ℕ → List ℕ
refusal_line number place round = line_text "refused" (number ∷ place ∷ round ∷ [])

-- The line of a refusal
abbrev pub refused_as : Refusal → List ℕ
refused_as r = refusal_line (number_of r) (place_of r) (round_of r)

-- Behind the reading
unfoldable pub report_on : Diagram → Outcome (List ℕ)
report_on d = do
  s ← sizes_of d
  w ← fitted 16000 (cells (population d s.result))
  accepted (report s.rounds s.result (population d s.result))

abbrev pub report_of : Diagram → List ℕ
report_of d = output (report_on d)

unfoldable pub text_report : List ℕ → List ℕ
text_report text = output (diagram_in text_line text >>= report_on)

unfoldable pub table_report : List ℕ → List ℕ
table_report t = output (diagram_in table_line t >>= report_on)
