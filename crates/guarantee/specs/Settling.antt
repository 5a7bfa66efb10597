-- What is said of every call that runs the rounds, from the diagram's own bounds or from others, and makes something of the settled sizes. A call
-- gives the outcome for every length of the buffer.
use Rattle.std.specs.Prelude.{ℕ, suc, ◌≤◌, ◌<◌, ◌≡◌, ◌↔◌, List, ◌++◌, length, drop}
use Rattle.fixpoint.specs.Limits.{unsatisfiable, fixpoint}
use Rattle.fixpoint.specs.Notions.{Unsatisfiable, Fixpoint}
use Rattle.orm.specs.Diagram.{Diagram}
use Rattle.orm.specs.Sets.{limits, verdict_from}
use Rattle.orm.specs.Outcome.{Outcome, refused, accepted, buffer_after, Sized, written, handed_back}

-- What a call that runs the rounds hands back
abbrev pub sized : ℕ → List ℕ → Outcome Sized
sized n w = accepted (record { rounds = n; result = w })

-- 'the set and round of document 01', of rounds from these bounds; the place is the set's number, from 1
pub record EmptiedFrom (d : Diagram) (low high : List ℕ) (place round : ℕ) : Type 0 where
  pub set : ℕ
  pub numbered : place ≡ suc set
  pub defined : verdict_from d low high ≡ unsatisfiable set round
  -- after this round, and not before, an upper bound is below its lower bound, that of this set the first
  pub meaning : Unsatisfiable (limits d) low high set round

-- Refused by this number exactly when there is none, whatever the buffer, with the set and round of the rounds from these bounds
pub record RefusesBy (number : ℕ) (d : Diagram) (low high : List ℕ) (None : Type 0) (call : ℕ → Outcome Sized) : Type 0 where
  pub exactly_when : (space : ℕ) → ((place : ℕ) × (round : ℕ) × (call space ≡ refused number place round)) ↔ None
  pub set_and_round : (space place round : ℕ) → call space ≡ refused number place round → EmptiedFrom d low high place round

-- 'the settled sizes' of rounds from these bounds, and the rounds made
pub record SettledFrom (d : Diagram) (low high : List ℕ) (rounds : ℕ) (settled : List ℕ) : Type 0 where
  pub defined : verdict_from d low high ≡ fixpoint rounds settled
  -- these upper bounds stand after so many rounds, of which the last, and no other, lowered nothing; none was ever below its lower bound
  pub meaning : Fixpoint (limits d) low high rounds settled

-- The result is written, and the rounds are handed back; a buffer that is too short is refused
pub record Writes (call : ℕ → Outcome Sized) (rounds : ℕ) (result : List ℕ) : Type 0 where
  pub writes : (space : ℕ) → length result ≤ space → call space ≡ accepted (record { rounds = rounds; result = result })
  pub front : (buffer : List ℕ) → length result ≤ length buffer
      → buffer_after (written (call (length buffer))) buffer ≡ result ++ drop (length result) buffer
  pub hands_back : (space : ℕ) → length result ≤ space
      → handed_back (call space) ≡ accepted (record { rounds = rounds; result_length = length result })
  pub too_short : (space : ℕ) → space < length result → call space ≡ refused 8 (length result) 0
