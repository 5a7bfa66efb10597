-- The calls and the program as the documents define them without S-8 of document 02: what `Before` says in place of what `orm` does.
use Rattle.std.specs.Prelude.{ℕ, List, take}
use Rattle.fixpoint.specs.Limits.{Verdict}
use Rattle.orm.specs.Diagram.{Diagram, table}
use Rattle.orm.specs.Text.{render, text_line, table_line}
use Rattle.orm.specs.Population.{cells}
use Rattle.orm.specs.Populate.{population}
use Rattle.orm.specs.Constraints.{Answer}
use Rattle.orm.specs.Outcome.{Outcome, accepted, ◌>>=◌, fitted, Sized}
use Rattle.orm.specs.Calls.{sizes_by, population_in, settled_into}
use Rattle.orm.specs.Program.{report, output}
use Rattle.guarantee.specs.RoleLimits.Before.{diagram_in_before, verdict_before, answer_before}

abbrev pub read_call_before : List ℕ → ℕ → Outcome (List ℕ)
read_call_before text space = diagram_in_before text_line text >>= λ d. fitted space (table d)

abbrev pub write_call_before : List ℕ → ℕ → Outcome (List ℕ)
write_call_before t space = diagram_in_before table_line t >>= λ d. fitted space (render d)

abbrev pub check_call_before : List ℕ → ℕ → Outcome Sized
check_call_before t space = diagram_in_before table_line t >>= λ d. settled_into 7 (λ c. c) (verdict_before d) space

abbrev pub populate_call_before : List ℕ → ℕ → Outcome Sized
populate_call_before t space = diagram_in_before table_line t >>= λ d. settled_into 7 (λ c. cells (population d c)) (verdict_before d) space

abbrev pub validate_call_before : List ℕ → List ℕ → Outcome Answer
validate_call_before t s = diagram_in_before table_line t >>= λ d. population_in d s >>= λ o. accepted (answer_before d o)

abbrev pub report_before : Diagram → Verdict → Outcome (List ℕ)
report_before d v =
    sizes_by 7 v >>= λ s. fitted 16000 (cells (population d s.result))
    >>= λ w. accepted (report s.rounds s.result (population d s.result))

-- 'reads at most 4,096 bytes'
abbrev pub program_before : List ℕ → List ℕ
program_before input = output (diagram_in_before text_line (take 4096 input) >>= λ d. report_before d (verdict_before d))
