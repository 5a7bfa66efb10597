-- The calls and the program as document 01 defines them without S-5 of document 02: what `Before` says in place of what `orm` does.
use Rattle.std.specs.Prelude.{ℕ, List, take}
use Rattle.fixpoint.specs.Limits.{Verdict}
use Rattle.orm.specs.Diagram.{Diagram, table}
use Rattle.orm.specs.Text.{render, text_line, table_line}
use Rattle.orm.specs.Population.{cells}
use Rattle.orm.specs.Populate.{population}
use Rattle.orm.specs.Constraints.{Answer}
use Rattle.orm.specs.Outcome.{Outcome, accepted, ◌>>=◌, fitted, Sized}
use Rattle.orm.specs.Calls.{sizes_by, population_in, settled_into}
use Rattle.orm.specs.Program.{report, output}
use Rattle.guarantee.specs.SubtypeRanges.Before.{diagram_in01, verdict_in01, answer_in01}

abbrev pub read_call_in01 : List ℕ → ℕ → Outcome (List ℕ)
read_call_in01 text space = diagram_in01 text_line text >>= λ d. fitted space (table d)

abbrev pub write_call_in01 : List ℕ → ℕ → Outcome (List ℕ)
write_call_in01 t space = diagram_in01 table_line t >>= λ d. fitted space (render d)

abbrev pub check_call_in01 : List ℕ → ℕ → Outcome Sized
check_call_in01 t space = diagram_in01 table_line t >>= λ d. settled_into 7 (λ c. c) (verdict_in01 d) space

abbrev pub populate_call_in01 : List ℕ → ℕ → Outcome Sized
populate_call_in01 t space = diagram_in01 table_line t >>= λ d. settled_into 7 (λ c. cells (population d c)) (verdict_in01 d) space

abbrev pub validate_call_in01 : List ℕ → List ℕ → Outcome Answer
validate_call_in01 t s = diagram_in01 table_line t >>= λ d. population_in d s >>= λ o. accepted (answer_in01 d o)

abbrev pub report_in01 : Diagram → Verdict → Outcome (List ℕ)
report_in01 d v =
    sizes_by 7 v >>= λ s. fitted 16000 (cells (population d s.result))
    >>= λ w. accepted (report s.rounds s.result (population d s.result))

abbrev pub program_in01 : List ℕ → List ℕ
program_in01 input = output (diagram_in01 text_line (take 8192 input) >>= λ d. report_in01 d (verdict_in01 d))
