-- The limits of a table's diagram, and what is counted of it.
use Rattle.std.specs.Prelude.{ℕ, ◌≤◌, ◌≡◌, List, length, take, map, All, Result, Ok, Err}
use Rattle.orm.specs.Diagram.{Diagram, all_roles, all_groups}
use Rattle.orm.specs.Sets.{set_count, limits}
use Rattle.orm.specs.Outcome.{Outcome, accepted}
use Rattle.lowering.specs.Coded.{limit_of}
use Rattle.lowering.specs.Closed.{Within}
use Rattle.limits.specs.Encoded.{Fresh}
use Rattle.limits.specs.Prepared.{most_limits, most_operands}
use Rattle.limits.specs.declared.writer.Writer.{Writer}
use Rattle.table.specs.Positions.{diagram_of}
use Rattle.table.specs.Valid.{Valid}
use Rattle.refusals.specs.Refusal.{refusal_of}
use Rattle.refusals.specs.declared.Refusal.{Refusal}

-- A valid table, and how many roles, or groups, and sets its diagram has
pub record Counted (t : List ℕ) (roles sets : ℕ) : Type 0 where
  pub valid : Valid t
  pub roles_are : roles ≡ length (all_roles (diagram_of t))
  pub sets_are : sets ≡ set_count (diagram_of t)

pub record Bounded (t : List ℕ) (groups sets : ℕ) : Type 0 where
  pub valid : Valid t
  pub groups_are : groups ≡ length (all_groups (diagram_of t))
  pub sets_are : sets ≡ set_count (diagram_of t)

-- Nothing is written as yet, with room for the limits of every diagram
abbrev pub Roomy : Writer → Type 0
Roomy o = Fresh o most_limits most_operands

-- The diagram's limits were written, and are whole, and it has n sets
pub record Stated (o : Outcome Diagram) (n : ℕ) (out : Writer) : Type 0 where
  pub of : Diagram
  pub reads : o ≡ accepted of
  pub limits_within : out.limits.at ≤ length out.limits.buffer.now
  pub limits_are : map (limit_of out.operands.buffer.now) (take out.limits.at out.limits.buffer.now) ≡ limits of
  pub whole : All (Within n out.operands.buffer.now) (take out.limits.at out.limits.buffer.now)
  pub sets_are : n ≡ set_count of

abbrev pub Poses : Outcome Diagram → Result ℕ Refusal → Writer → Type 0
Poses o (Ok n) out = Stated o n out
Poses o (Err r) out = o ≡ refusal_of r

-- What is said of the outcome of reading a table: it is refused so, or its diagram's limits are stated so
pub record Posed (o : Outcome Diagram) (r : Result ℕ Refusal) (out : Writer) : Type 0 where
  pub poses : Poses o r out
