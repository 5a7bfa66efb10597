-- The examples of the refusal table (document 01, 'What the machine says no to'), as one list of inputs with their refusals, and the one
-- theorem that they hold.
use Rattle.std.specs.Prelude.{ℕ, ◌≡◌, refl, List, [], ◌∷◌, map}
use Prim.Native.String.{String}
use Rattle.orm.specs.Outcome.{Outcome, refused, accepted, ◌>>=◌}
use Rattle.orm.specs.Calls.{read_call, populate_call, validate_call}
use Rattle.orm.proofs.Cases.All.{everything}
use Rattle.orm.proofs.Cases.Marked.{table_space}
use Rattle.orm.specs.Sample.{text, sample_with, sample}

pub data Input : Type 0 where
  -- a file, read
  reading : List String → Input
  -- a file, read and populated, with a buffer of so many cells
  populating : List String → ℕ → Input
  -- a file, read, and cells validated against it
  validating : List String → List ℕ → Input

pub record Example : Type 0 where
  pub input : Input
  pub number : ℕ
  pub place : ℕ
  pub round : ℕ

-- an outcome without its result
refusal : {A : Type 0} → Outcome A → Outcome (Unit {0})
refusal o = o >>= λ r. accepted tt

pub outcome_of : Input → Outcome (Unit {0})
outcome_of (reading ls) = refusal (read_call (text ls) table_space)
outcome_of (populating ls space) = refusal (read_call (text ls) table_space >>= λ t. populate_call t space)
outcome_of (validating ls cells) = refusal (read_call (text ls) table_space >>= λ t. validate_call t cells)

-- A type and the start of a predicate, for the examples of single lines
one_predicate : List String → List String
one_predicate rest = "diagram=1" ∷ "types=1" ∷ "type=1,5,0,9,0,1" ∷ "preds=1" ∷ rest

p2 : List String
p2 =
    "diagram=1" ∷ "types=2" ∷ "type=1000,4096,1,9999,0,0" ∷ "type=1,2,1,2,0,0"
    ∷ "preds=1" ∷ "pred=1,4096,2,2" ∷ "role=1,1,1" ∷ "role=2,0,2" ∷ "freq=1,1" ∷ "freq=1,1" ∷ "end=2" ∷ []

pub examples : List Example
examples =
    record { input = reading ("diagram=1" ∷ "types=02" ∷ []); number = 1; place = 2; round = 0 }
    ∷ record { input = reading ("diagram=1" ∷ "types=33" ∷ []); number = 2; place = 2; round = 0 }
    ∷ record { input = reading ("diagram=1" ∷ "types=1" ∷ "type=1,5,0,0,1,0" ∷ []); number = 3; place = 3; round = 0 }
    ∷ record { input = reading (one_predicate ("pred=1,9,1,1" ∷ "role=1,0,1" ∷ "freq=3,2" ∷ [])); number = 4; place = 7; round = 0 }
    ∷ record { input = reading (one_predicate ("pred=1,9,1,1" ∷ "role=1,0,0" ∷ "freq=1,1" ∷ [])); number = 5; place = 7; round = 0 }
    ∷ record { input = reading (one_predicate ("pred=1,9,2,0" ∷ "role=1,0,0" ∷ "role=1,0,0" ∷ "end=3" ∷ [])); number = 6; place = 8; round = 0 }
    ∷ record { input = populating p2 16000; number = 7; place = 1; round = 5 }
    ∷ record { input = populating sample 19; number = 8; place = 20; round = 0 }
    ∷ record { input = validating sample (3 ∷ 1 ∷ 2 ∷ []); number = 9; place = 3; round = 0 }
    ∷ []

pub examples_hold :
    map (λ (x : Example). outcome_of x.input) examples ≡ map (λ (x : Example). refused x.number x.place x.round) examples
unfolding everything text sample_with sample refusal outcome_of one_predicate p2 examples
examples_hold = refl
