-- What the check hands back, and what it leaves in the buffer, in document 01's words.
use Rattle.std.specs.Prelude.{ℕ, ◌+◌, ◌≤◌, ◌≡◌, List, length, Result, Ok, Err}
use Rattle.fixpoint.specs.Limits.{fixpoint}
use Rattle.orm.specs.Outcome.{Outcome, accepted, buffer_after, Sized, written, Handed, handed_back}
use Rattle.orm.specs.Sets.{set_count, lower, limits}
use Rattle.orm.specs.Calls.{settled_into}
use Rattle.lowering.specs.Sizes.{largest}
use Rattle.dependents.specs.Dependents.{operand_count}
use Rattle.dependents.specs.declared.Use.{Use}
use Rattle.limits.specs.Encoded.{Fresh, written_count}
use Rattle.limits.specs.declared.writer.Writer.{Writer}
use Rattle.table.specs.Positions.{diagram_of}
use Rattle.table.specs.Valid.{Valid}
use Rattle.refusals.specs.Refusal.{refusal_of}
use Rattle.refusals.specs.declared.Refusal.{Refusal}
use Rattle.bounds.specs.Start.{verdict_by, Starts}
use Rattle.bounds.specs.declared.Start.{Start}
use Rattle.bounds.specs.declared.Written.{Written}

-- Of each answer document 01's number, place and round; or the rounds and the length of the result
abbrev pub settlement_of : Result Written Refusal → Outcome Handed
settlement_of (Ok w) = accepted (record { rounds = w.rounds; result_length = w.length })
settlement_of (Err r) = refusal_of r

-- The answer hands back what the outcome does, and the buffer is as it should be
pub record Answered (o : Outcome Sized) (r : Result Written Refusal) (before after : List ℕ) : Type 0 where
  pub handed : settlement_of r ≡ handed_back o
  pub buffer : after ≡ buffer_after (written o) before

-- What the check makes of the settled sizes
abbrev pub unchanged : List ℕ → List ℕ
unchanged c = c

-- The outcome of the check of a valid table, from these bounds
abbrev pub checked : Start → List ℕ → ℕ → Outcome Sized
checked x t space = settled_into 7 unchanged (verdict_by x (diagram_of t)) space

-- The rounds of a valid table's diagram end with these sizes, after so many
pub record Settled (x : Start) (t c : List ℕ) (rounds : ℕ) : Type 0 where
  pub valid : Valid t
  pub starts : Starts x (set_count (diagram_of t))
  pub ended : verdict_by x (diagram_of t) ≡ fixpoint rounds c

-- The diagram of a table has at most so many limits, operands of products and sums, sets, and operands in all
pub record Takes (t : List ℕ) (most_limits most_operands most_sets most_uses : ℕ) : Type 0 where
  pub limits_are : length (limits (diagram_of t)) ≤ most_limits
  pub operands_are : written_count (limits (diagram_of t)) ≤ most_operands
  pub few : most_limits + most_operands + most_sets + most_uses ≤ largest
  pub sets_are : length (lower (diagram_of t)) ≤ most_sets
  pub uses_are : operand_count (limits (diagram_of t)) ≤ most_uses

-- Scratch for the check of a table: for the limits and the links of their operands, and for the bounds of all sets
pub record Space (t : List ℕ) (out : Writer) (low up next changed last : List ℕ) (uses : List Use) : Type 0 where
  pub fresh : Fresh out (length (limits (diagram_of t))) (written_count (limits (diagram_of t)))
  pub lower_room : length (lower (diagram_of t)) ≤ length low
  pub upper_room : length (lower (diagram_of t)) ≤ length up
  pub next_room : length (lower (diagram_of t)) ≤ length next
  pub changed_room : length (lower (diagram_of t)) ≤ length changed
  pub last_room : length (lower (diagram_of t)) ≤ length last
  pub uses_room : operand_count (limits (diagram_of t)) ≤ length uses
