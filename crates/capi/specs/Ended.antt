-- What the contracts of the calls for C ensure, by the outcome of the call: of the four numbers, and of the array that it writes, `before` and `after`.
use Rattle.std.specs.Prelude.{ℕ, ◌≡◌, List, [], ◌∷◌, ◌++◌, Float, length, drop}
use Rattle.orm.specs.Average.{Average, average_call}
use Rattle.orm.specs.Outcome.{Outcome, Sized, buffer_after, length_of, written, handed_back}
use Rattle.orm.specs.Calls.{validate_call}
use Rattle.orm.specs.Prescribe.{prescribe_call}
use Rattle.orm.specs.SingleLimits.{start_call, lower_call, survey_call, bounds_of, found_of}
use Rattle.orm.specs.Meaning.{Between}
use Rattle.populate.specs.Demand3.{TableOf}
use Rattle.capi.specs.Answers.{numbers, roundless, found_numbers, verdict_numbers, average_numbers, float_after}
pub mod Laws

-- Reading or writing that ends so; and check or populating
pub record Converted (o : Outcome (List ℕ)) (four before after : List ℕ) : Type 0 where
  pub answer : four ≡ numbers (roundless (length_of o))
  pub array : after ≡ buffer_after o before

pub record Settled (o : Outcome Sized) (four before after : List ℕ) : Type 0 where
  pub answer : four ≡ numbers (handed_back o)
  pub array : after ≡ buffer_after (written o) before

-- Populating with one set kept to a size
abbrev pub HasPrescribed : List ℕ → ℕ → ℕ → List ℕ → List ℕ → List ℕ → Type 0
HasPrescribed t number wanted four before after = Settled (prescribe_call t number wanted (length before)) four before after

-- Validating
abbrev pub HasValidated : List ℕ → List ℕ → List ℕ → Type 0
HasValidated t cells four = four ≡ verdict_numbers (validate_call t cells)

-- The starting upper bounds; one limit put to use; and whether any lowers a bound
abbrev pub HasStarted : List ℕ → List ℕ → List ℕ → List ℕ → Type 0
HasStarted t four before after = Converted (start_call t (length before)) four before after

pub record HasLowered (t : List ℕ) (number : ℕ) (four before after : List ℕ) : Type 0 where
  pub answer : four ≡ found_numbers (found_of (lower_call t number before))
  pub array : after ≡ buffer_after (bounds_of (lower_call t number before)) before

abbrev pub HasSurveyed : List ℕ → List ℕ → List ℕ → Type 0
HasSurveyed t sizes four = four ≡ found_numbers (survey_call t sizes)

-- The average use of a group; of the caller's float, `before` and `after`
pub record Divided (o : Outcome Average) (four : List ℕ) (before after : Float) : Type 0 where
  pub answer : four ≡ average_numbers o
  pub float : after ≡ float_after o before

abbrev pub HasAveraged : List ℕ → ℕ → List ℕ → Float → Float → Type 0
HasAveraged t number four before after = Divided (average_call t number) four before after

-- Accepted by reading or writing: the result stands at the front of the array
pub record Gives (result four before after : List ℕ) : Type 0 where
  pub answer : four ≡ 0 ∷ 0 ∷ 0 ∷ length result ∷ []
  pub front : after ≡ result ++ drop (length result) before

-- Refused with this number at this line; what the call writes is as it was
pub record RefusedWith {A : Type 0} (number line : ℕ) (four : List ℕ) (before after : A) : Type 0 where
  pub answer : four ≡ number ∷ line ∷ 0 ∷ 0 ∷ []
  pub kept : after ≡ before

abbrev pub RefusedWith4 : ℕ → List ℕ → List ℕ → List ℕ → Type 0
RefusedWith4 = RefusedWith 4

-- A table with a fault of form is that of no diagram
pub record Faulty {A : Type 0} (t four : List ℕ) (before after : A) : Type 0 where
  pub none : ¬ TableOf t
  pub fault : ℕ
  pub line : ℕ
  pub of_form : Between 1 fault 6
  pub refused : RefusedWith fault line four before after
