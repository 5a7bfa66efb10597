-- What is prepared for a predicate before its rows are written, and the row that it gives.
use Rattle.std.specs.Prelude.{ℕ, suc, ◌+◌, ◌%◌, ◌≤◌, ◌≡◌, Bool, true, false, eqb, length, get_or, take, drop, sum, All}
use Rattle.std.specs.Prelude as prelude
use mathlib.Core.List.{List, [], ◌∷◌, flat_map, map}
use Rattle.orm.specs.Diagram.{Diagram, Role, index}
use Rattle.orm.specs.Sets.{Placed, Part, parts, first_role}
use Rattle.orm.specs.Population.{cells_of_pred}
use Rattle.orm.specs.Supertypes.{first_value}
use Rattle.orm.specs.Populate.{size, taken_before, rows}
use Rattle.table.specs.Positions.{diagram_of, Walkable}
use Rattle.table.specs.Cursors.{placed_at, Here}
use Rattle.table.specs.declared.Cursor.{Cursor}
use Rattle.tuples.specs.Steps.{tuple_of, Small}
use Rattle.tuples.specs.Nested.{tuples_in}
use Rattle.population.specs.declared.rows.Column.{Column}
use Rattle.population.specs.declared.rows.Plan.{Plan}

-- The cells of the predicate at x
abbrev pub cells_at : List ℕ → List ℕ → Cursor → List ℕ
cells_at t c x = cells_of_pred (rows (diagram_of t) c (placed_at t x))

-- ---- parts

-- The roles of the parts, part by part
unfoldable pub order : Placed → List ℕ
order x = flat_map (λ (b : Part). b.roles) (parts x)

-- How many roles each part has, and how many members
unfoldable pub counts : Placed → List ℕ
counts x = map (λ (b : Part). length b.roles) (parts x)

unfoldable pub owns : List ℕ → Placed → List ℕ
owns c x = map (λ (b : Part). size c b.own) (parts x)

-- The sizes of some sets
abbrev pub sizes_of : List ℕ → List ℕ → List ℕ
sizes_of c sets = map (size c) sets

-- ---- columns

-- Where a number first stands in a list; past its end if it does not
unfoldable pub position : ℕ → List ℕ → ℕ
position p [] = 0
position p (s ∷ ss) = elim (eqb s p) [ true ↦ 0 | false ↦ suc (position p ss) ]

-- The roles played by the type with this number, of roles whose types are listed; they count from `i`
unfoldable pub played : ℕ → ℕ → List ℕ → List ℕ
played number i [] = []
played number i (y ∷ ys) = elim (eqb y number) [ true ↦ i ∷ played number (suc i) ys | false ↦ played number (suc i) ys ]

-- Of the role `p`: its type's first value and size, how many members the type's roles before it take, and where its index stands in a row by parts;
-- `types` has the types of all roles, `roles` the roles of the parts
abbrev pub column_of : Diagram → List ℕ → List ℕ → List ℕ → ℕ → Role → Column
column_of d c types roles p r = record {
  first = first_value d.types (index r.type);
  size = size c (index r.type);
  start = taken_before c p (played r.type (first_role d) types);
  place = position p roles;
}

-- There are not too many of them
pub record Listed (types roles : List ℕ) : Type 0 where
  pub few_types : length types ≤ 96
  pub few_roles : length roles ≤ 6

-- The cell of a column in a row that is given by parts
abbrev pub cell_of : List ℕ → Column → ℕ
cell_of flat s = s.first + (s.start + get_or flat s.place 0) % s.size

-- ---- rows

-- Row `i` from what is prepared, whatever stands behind the steps of the parts: of each column the cell in the row by parts
abbrev pub by_parts : Plan → ℕ → List ℕ
by_parts p i = tuples_in p.inner.now p.counts.now (tuple_of (take (length p.counts.now) p.outer.now) i)

abbrev pub row_by : Plan → ℕ → List ℕ
row_by p i = prelude.map (cell_of (by_parts p i)) p.columns.now

-- ---- that all of it is small

-- The sums that a cell takes are numbers of 32 bits
pub record Narrow (column : Column) : Type 0 where
  pub first : column.first ≤ 999999
  pub start : column.start ≤ 999999

-- Counts wanted, how many roles each has, and the sizes of these
pub record Wants (wants ks sizes : List ℕ) : Type 0 where
  pub wanted : Small wants
  pub counted : length wants ≡ length ks
  pub sized : sum ks ≡ length sizes
  pub few : length sizes ≤ 6

-- What is prepared for a predicate: all of it is there and small
pub record Planned (p : Plan) : Type 0 where
  pub few : length p.counts.now ≤ 12
  pub stepped : length p.counts.now ≤ length p.outer.now
  pub there : sum p.counts.now ≤ length p.inner.now
  pub enough : sum p.counts.now ≤ 6
  pub narrow : All Narrow p.columns.now

-- At most 6 roles and 6 groups
pub record SmallArity (t : List ℕ) (x : Cursor) : Type 0 where
  pub roles : get_or (drop x.at t) 2 0 ≤ 6
  pub groups : get_or (drop x.at t) 3 0 ≤ 6

-- ---- what is known of a predicate whose cells are written

-- A walk is at `x`, and the sizes `c` are small
pub record AtPredicate (t c : List ℕ) (x : Cursor) : Type 0 where
  pub walk : Walkable t
  pub sizes : Small c
  pub here : Here t x
  pub few : SmallArity t x

-- `xs` stands at the front of a list, up to the index `n`
pub record Front {T : Type 0} (xs space : List T) (n : ℕ) : Type 0 where
  pub within : n ≤ length space
  pub is : take n space ≡ xs
