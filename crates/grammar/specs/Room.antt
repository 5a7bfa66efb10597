-- A table has at most `most_numbers` numbers: 1, 1, 32 * 6, 1, 32 * 4, 96 * 5, 48 * 2, 1. What is known at each place, so that this follows; a role
-- counts as wide as it can be.
use Rattle.std.specs.Prelude.{ℕ, suc, ◌+◌, ◌*◌, ◌≤◌, ◌<◌}
use Rattle.reading.specs.WideTable.{role_width, most_numbers}
use Rattle.grammar.specs.declared.Counts.{Counts}
use Rattle.grammar.specs.declared.Block.{Block}
use Rattle.grammar.specs.declared.Awaited.{Awaited}
use Rattle.grammar.specs.declared.Awaited.TheVariants.{AtDiagram, AtTypes, AtType, AtPreds, AtPred, AtRole, AtFreq, AtEnd, Over}

-- `read` numbers, and `more` of this predicate; then `left` predicates, with as many roles and groups as may still come
pub record Within (c : Counts) (read more : ℕ) : Type 0 where
  pub numbers : read + more + 4 * c.left ≤ 323 + role_width * c.roles + 2 * c.groups
  pub roles : c.roles ≤ 96
  pub groups : c.groups ≤ 48

-- a predicate's own numbers
pub record Own (b : Block) : Type 0 where
  pub first : b.first ≤ most_numbers
  pub roles : b.roles ≤ 6
  pub groups : b.groups ≤ 6

-- What is known at a place after `read` numbers
abbrev pub RoomAt : Awaited → ℕ → Type 0
RoomAt AtDiagram read = read ≤ 0
RoomAt (AtTypes kind) read = read ≤ 1
RoomAt (AtType kind types own left) read = (read + 6 * left ≤ 188) × (own + left ≤ 32)
RoomAt (AtPreds kind types) read = read ≤ 194
RoomAt (AtPred c) read = Within c read 4
RoomAt (AtRole b left) read = Within b.counts read (role_width * suc left + 2 * b.groups) × Own b
RoomAt (AtFreq b own left) read = Within b.counts read (2 * suc left) × Own b × (own + left ≤ 6)
RoomAt (AtEnd c) read = read < most_numbers
RoomAt (Over c) read = read ≤ most_numbers

pub record Room (p : Awaited) (read : ℕ) : Type 0 where
  pub known : RoomAt p read
