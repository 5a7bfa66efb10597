-- Demand 3 at the interface for C: what the four numbers of a call tell, and of the array that it writes, `before` and `after`.
use Rattle.std.specs.Prelude.{ℕ, ◌≡◌, List, Result}
use Rattle.reader.specs.Answer.{conversion_of}
use Rattle.refusals.specs.declared.Refusal.{Refusal}
use Rattle.bounds.specs.Answer.{settlement_of}
use Rattle.bounds.specs.declared.Written.{Written}
use Rattle.populate.specs.Demand3.{Making, Means, ReadMeans}
use Rattle.capi.specs.Answers.{numbers, roundless}

-- Of a table, by check or populating: the four numbers are those of an answer, and what this answer means by demand 3 holds of the array
pub record Told (t : List ℕ) (make : Making) (four before after : List ℕ) : Type 0 where
  pub answer : Result Written Refusal
  pub numbered : four ≡ numbers (settlement_of answer)
  pub means : Means t make answer before after

-- Of a text, by reading: the same
pub record ToldRead (text four before after : List ℕ) : Type 0 where
  pub answer : Result ℕ Refusal
  pub numbered : four ≡ numbers (roundless (conversion_of answer))
  pub means : ReadMeans text answer before after
