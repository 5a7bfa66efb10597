-- Inputs of the calls with the outcomes that are worked out for them: the cases of a change request are one list of these.
use Rattle.std.specs.Prelude.{ℕ, List}
use Prim.Native.String.{String}
use Rattle.orm.specs.Constraints.{Answer}
use Rattle.orm.specs.Outcome.{Outcome, refused, accepted, Sized, ◌>>=◌}
use Rattle.orm.specs.Calls.{read_call, check_call, validate_call}
use Rattle.orm.proofs.Cases.Marked.{table_space}
use Rattle.orm.specs.Sample.{text}

pub data Input : Type 0 where
  -- a file, read and checked
  checking : List String → Input
  -- a file, read, and cells validated against it
  validating : List String → List ℕ → Input

pub data Result : Type 0 where
  checked : Outcome Sized → Result
  answered : Outcome Answer → Result

unfoldable pub result_of : Input → Result
result_of (checking ls) = checked (read_call (text ls) table_space >>= λ t. check_call t 208)
result_of (validating ls cells) = answered (read_call (text ls) table_space >>= λ t. validate_call t cells)

pub record Case : Type 0 where
  pub input : Input
  pub result : Result

unfoldable pub settles : List String → ℕ → List ℕ → Case
settles ls rounds sizes = record { input = checking ls; result = checked (accepted (record { rounds = rounds; result = sizes })) }

unfoldable pub refuses : List String → ℕ → ℕ → ℕ → Case
refuses ls number place round = record { input = checking ls; result = checked (refused number place round) }

unfoldable pub answers : List String → List ℕ → Answer → Case
answers ls cells a = record { input = validating ls cells; result = answered (accepted a) }
