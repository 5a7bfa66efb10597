-- What single functions write and count.
use Rattle.std.specs.Prelude.{ℕ, ◌+◌, ◌≤◌, ◌≡◌, List, ◌++◌, length}
use Rattle.orm.specs.Diagram.{all_roles, all_groups}
use Rattle.counting.specs.Lists.{up_from}
use Rattle.orm.specs.Sets.{Placed, group_roles, first_role}
use Rattle.table.specs.Positions.{diagram_of}
use Rattle.selection.specs.Selected.{Types}

-- So many groups of a predicate, and the roles in its group with this number; 0: in no group
abbrev pub parts_in : Placed → ℕ → ℕ → List ℕ
parts_in x groups number = up_from x.groups groups ++ group_roles x number

-- How many roles and groups a table's diagram has
pub record Counted (t : List ℕ) (roles groups : ℕ) : Type 0 where
  pub roles_are : roles ≡ length (all_roles (diagram_of t))
  pub groups_are : groups ≡ length (all_groups (diagram_of t))

-- The types of all roles, and the set of the first role, among the sets of types, predicates and roles
pub record Played (t types : List ℕ) (first : ℕ) : Type 0 where
  pub known : Types t types
  pub starts : first ≡ first_role (diagram_of t)
  pub small : first + length types ≤ 160
