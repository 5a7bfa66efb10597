-- The four numbers that each exported function leaves in its answer, of the outcomes of documents 01 and 02.
use Rattle.std.specs.Prelude.{ℕ, List, [], ◌∷◌, Float}
use Rattle.counting.specs.Totals.{bit}
use Rattle.orm.specs.Average.{Average, whole, fraction}
use Rattle.orm.specs.Constraints.{Answer, valid, breaks}
use Rattle.orm.specs.Outcome.{Outcome, refused, accepted, ◌>>=◌, Handed}
use Rattle.orm.specs.SingleLimits.{Found}

-- Number (0: accepted), place, round, and the length of the result; of an acceptance the rounds made
unfoldable pub numbers : Outcome Handed → List ℕ
numbers (refused number place round) = number ∷ place ∷ round ∷ 0 ∷ []
numbers (accepted h) = 0 ∷ 0 ∷ h.rounds ∷ h.result_length ∷ []

-- Reading and writing make no rounds
abbrev pub roundless : Outcome ℕ → Outcome Handed
roundless o = o >>= λ length. accepted (record { rounds = 0; result_length = length })

-- Number (0: accepted), place, whether a limit lowers an upper bound (0: no, 1: yes), and the count that is handed back
unfoldable pub found_numbers : Outcome Found → List ℕ
found_numbers (refused number place round) = number ∷ place ∷ round ∷ 0 ∷ []
found_numbers (accepted f) = 0 ∷ 0 ∷ bit f.lowers ∷ f.count ∷ []

-- Number (0: not refused), place, the broken K and the number that breaks it (0, 0: none)
unfoldable pub verdict_numbers : Outcome Answer → List ℕ
verdict_numbers (refused number place round) = number ∷ place ∷ 0 ∷ 0 ∷ []
verdict_numbers (accepted valid) = 0 ∷ 0 ∷ 0 ∷ 0 ∷ []
verdict_numbers (accepted (breaks constraint number)) = 0 ∷ 0 ∷ constraint ∷ number ∷ []

-- Number (0: accepted), place, round; of an average whether it is a float (0: no, 1: yes), and the whole number
unfoldable pub average_numbers : Outcome Average → List ℕ
average_numbers (refused number place round) = number ∷ place ∷ round ∷ 0 ∷ []
average_numbers (accepted (whole n)) = 0 ∷ 0 ∷ 0 ∷ n ∷ []
average_numbers (accepted (fraction x)) = 0 ∷ 0 ∷ 1 ∷ 0 ∷ []

-- The caller's float afterwards: an average that is a float is written, and nothing else
unfoldable pub float_after : Outcome Average → Float → Float
float_after (refused number place round) before = before
float_after (accepted (whole n)) before = before
float_after (accepted (fraction x)) before = x
