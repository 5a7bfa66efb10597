-- What a call answers, in the numbers of documents 01 and 02.
use Rattle.std.specs.Prelude.{ℕ, ◌≡◌, Result, Ok, Err}
use Rattle.orm.specs.Diagram.{Diagram}
use Rattle.orm.specs.Populate.{size}
use Rattle.orm.specs.Outcome.{Outcome, accepted, ◌>>=◌}
use Rattle.orm.specs.Calls.{sizes_of}
use Rattle.orm.specs.Average as paper
use Rattle.orm.specs.Average.{whole, fraction, group_in, average_of}
use Rattle.refusals.specs.Refusal.{refusal_of}
use Rattle.refusals.specs.declared.Refusal.{Refusal}
use Rattle.averages.specs.declared.AverageUse.{AverageUse}
use Rattle.averages.specs.declared.AverageUse.TheVariants.{Whole, Fraction}

abbrev pub average_value : AverageUse → paper.Average
average_value (Whole times) = whole times
average_value (Fraction times) = fraction times

-- Of each answer the number, place and round; or the average
abbrev pub average_answer_of : Result AverageUse Refusal → Outcome paper.Average
average_answer_of (Ok a) = accepted (average_value a)
average_answer_of (Err r) = refusal_of r

-- The answer is that of the outcome
pub record Answered (o : Outcome paper.Average) (a : Result AverageUse Refusal) : Type 0 where
  pub is : average_answer_of a ≡ o

-- The outcome for a group whose set and whose predicate's set are known
abbrev pub settled_average : Diagram → ℕ → ℕ → Outcome paper.Average
settled_average d r q = sizes_of d >>= λ s. accepted (average_of (size s.result r) (size s.result q))

-- and for any number
abbrev pub average_in : Diagram → ℕ → Outcome paper.Average
average_in d number = group_in d number >>= λ g. settled_average d g.predicate g.own
