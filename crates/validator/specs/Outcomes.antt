-- What `validate` answers, in document 01's numbers: its contract rests on this file and on orm.
use Rattle.std.specs.Prelude.{ℕ, Bool, false, List, leb, Result, Ok, Err}
use Rattle.orm.specs.Diagram.{Diagram}
use Rattle.orm.specs.Constraints.{Answer, answer}
use Rattle.orm.specs.Outcome.{Outcome, accepted, ◌>>=◌}
use Rattle.orm.specs.Calls.{population_in}
use Rattle.refusals.specs.Refusal.{refusal_of}
use Rattle.refusals.specs.declared.Refusal.{Refusal}
use Rattle.faults.specs.Faults.{answer_of}
use Rattle.faults.specs.declared.Verdict.{Verdict}
use Rattle.faults.specs.declared.Verdict.TheVariants as verdicts

-- The outcome of validating cells against a diagram
abbrev pub validated : Diagram → List ℕ → Outcome Answer
validated d s = population_in d s >>= λ o. accepted (answer d o)

-- Of each answer: yes, the lowest broken K with the lowest number that breaks it, or a refusal's number, place and round
abbrev pub validate_of : Result Verdict Refusal → Outcome Answer
validate_of (Ok v) = accepted (answer_of v)
validate_of (Err r) = refusal_of r

-- One of K1 to K4 is broken
unfoldable pub is_final : Verdict → Bool
is_final verdicts.Valid = false
is_final (verdicts.Breaks constraint number) = leb constraint 4
