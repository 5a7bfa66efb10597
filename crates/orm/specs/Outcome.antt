-- How a call ends, and what it leaves in the buffer (document 01, 'What the machine says no to').
use Rattle.std.specs.Prelude.{ℕ, true, false, List, ◌++◌, ltb, length, drop}
use Rattle.orm.specs.Reader.{Reading, rejected, read}

-- 'A refusal carries its number, a place and a round (0 but for 7)'
pub data Outcome (A : Type 0) : Type 0 where
  refused : ℕ → ℕ → ℕ → Outcome A
  accepted : A → Outcome A

module _ {A B : Type 0} where
  infixl 20 ◌>>=◌
  -- one step, then the step that depends on its result; the first refusal stands
  abbrev pub ◌>>=◌ : Outcome A → (A → Outcome B) → Outcome B
  refused c place round >>= f = refused c place round
  accepted a >>= f = f a

-- A refusal while reading has the round 0
unfoldable pub outcome_of : {A : Type 0} → Reading A → Outcome A
outcome_of (rejected c place) = refused c place 0
outcome_of (read a n rest) = accepted a

-- 8 'lent space shorter than the result', at the 'length needed'; `space` is the buffer's length
unfoldable pub fitted : ℕ → List ℕ → Outcome (List ℕ)
fitted space result = elim (ltb space (length result)) [ true ↦ refused 8 (length result) 0 | false ↦ accepted result ]

-- The buffer (document 01: the lent space) afterwards: 'An acceptance writes its result at the front of the lent space and
-- nothing behind it', a refusal 'writes no lent byte or number'
unfoldable pub buffer_after : Outcome (List ℕ) → List ℕ → List ℕ
buffer_after (refused c place round) buffer = buffer
buffer_after (accepted result) buffer = result ++ drop (length result) buffer

-- 'hands back the result's length'
abbrev pub length_of : Outcome (List ℕ) → Outcome ℕ
length_of o = o >>= λ result. accepted (length result)

-- ---- check and populate, which 'also hand back the rounds'

pub record Sized : Type 0 where
  pub rounds : ℕ
  pub result : List ℕ

-- what they write
unfoldable pub written : Outcome Sized → Outcome (List ℕ)
written o = o >>= λ s. accepted s.result

-- the numbers that they hand back
pub record Handed : Type 0 where
  pub rounds : ℕ
  pub result_length : ℕ

abbrev pub handed_back : Outcome Sized → Outcome Handed
handed_back o = o >>= λ s. accepted (record { rounds = s.rounds; result_length = length s.result })
