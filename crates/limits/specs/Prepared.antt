-- What the rounds of a valid table's diagram start from, in lent arrays.
use Rattle.std.specs.Prelude.{ℕ, ◌≤◌, ◌≡◌, List, ◌++◌, length, drop}
use Rattle.orm.specs.Diagram.{all_roles}
use Rattle.orm.specs.Sets.{lower, upper, limits}
use Rattle.buffer.specs.Written.{WroteAll}
use Rattle.table.specs.Positions.{diagram_of, Walkable}
use Rattle.table.specs.Valid.{Valid}
use Rattle.selection.specs.Selected.{types_of}
use Rattle.limits.specs.Single.{Counted}
use Rattle.limits.specs.Encoded.{Encoded}
use Rattle.limits.specs.declared.writer.Writer.{Writer}

-- No diagram has more sets: 32 types, 32 predicates, 96 roles, 48 groups
abbrev pub most_sets : ℕ
most_sets = 208

-- No diagram has more limits, nor more operands of products and sums (Laws/Room)
abbrev pub most_limits : ℕ
most_limits = 624

abbrev pub most_operands : ℕ
most_operands = 768

-- Nor do they name more sets
abbrev pub most_uses : ℕ
most_uses = 1280

-- A valid table, and how many roles and groups its diagram has
pub record ValidTotals (t : List ℕ) (roles groups : ℕ) : Type 0 where
  pub valid : Valid t
  pub walkable : Walkable t
  pub counted : Counted t roles groups

-- A table that is walked, how many roles its diagram has, and a place for the type of each
pub record Listable (t : List ℕ) (roles : ℕ) (types : List ℕ) : Type 0 where
  pub walkable : Walkable t
  pub counted : roles ≡ length (all_roles (diagram_of t))
  pub few : roles ≤ 96
  pub room : length (all_roles (diagram_of t)) ≤ length types

-- The types of the roles at the front of a list, whose rest stays
abbrev pub types_in : List ℕ → List ℕ → List ℕ
types_in t types = types_of (all_roles (diagram_of t)) ++ drop (length (all_roles (diagram_of t))) types

-- A place for the type of each role, and twice for each set
pub record Roomy (t types lower' upper' : List ℕ) : Type 0 where
  pub types_room : length (all_roles (diagram_of t)) ≤ length types
  pub lower_room : length (lower (diagram_of t)) ≤ length lower'
  pub upper_room : length (lower (diagram_of t)) ≤ length upper'

-- The limits of the diagram were written, and its bounds, for so many sets, stand at the fronts of the lent arrays, whose rest stays; so do the types
-- of its roles
pub record Prepared (t types : List ℕ) (out₀ : Writer) (lower₀ upper₀ : List ℕ) (sets : ℕ) (types' : List ℕ) (out : Writer) (lower' upper' : List ℕ) : Type 0 where
  pub types_are : types' ≡ types_in t types
  pub limits_are : Encoded out₀ (limits (diagram_of t)) out
  pub lower_are : WroteAll lower₀ (lower (diagram_of t)) lower' sets
  pub upper_are : WroteAll upper₀ (upper (diagram_of t)) upper' sets
