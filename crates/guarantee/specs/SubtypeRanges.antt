-- S-5, 'Ranges on subtypes' (document 02), as one statement over the definitions of the calls: the record `SubtypeRanges` at the end of this file, with
-- its one proof in `proofs/SubtypeRanges/Proof`. The request, quoted at its fields:
--
--     A subtype may now give FIRST and LAST if FIRST is its root's FIRST and LAST is not below FIRST, nor above the LAST of the nearest type above
--     it that gives one. Its starting ceiling is then also at most LAST - FIRST + 1, and K3 covers it. A pair 0,0 on a subtype still means none,
--     also under a root whose FIRST is 0, so the single value 0 can't be given this way. Every file accepted before gives the answer it gave.
--     Errors: 4 keeps its place and covers the subtype pairs that this rule doesn't allow.
--
-- `Before` and `CallsBefore` have the rule without it, that of document 01, for files of both kinds (S-8).
use Rattle.std.specs.Prelude.{ℕ, suc, ◌+◌, ◌-◌, min, ◌≤◌, ◌<◌, ◌≡◌, ◌↔◌, true, List, [], ◌∷◌, ◌++◌, map, length, get_or, take}
use Rattle.counting.specs.Terms.{EachFrom, ◌∈◌}
use Rattle.counting.specs.Index.{At}
use Rattle.orm.specs.Diagram.{ObjectType, Diagram, LineKind, Line, diagram_line, types_line, type_line, line_of_count, line_of_type, index}
use Rattle.orm.specs.Supertypes.{first_at, last_at, is_root_at, root, has_range_at, nearest}
use Rattle.orm.specs.Reader.{Cut}
use Rattle.orm.specs.Form.{ranges, in_ranges, values_in_order}
use Rattle.orm.specs.Text.{text_line, table_line}
use Rattle.orm.specs.Sets.{upper, upper_of_type}
use Rattle.orm.specs.Population.{Population}
use Rattle.orm.specs.Populate.{size}
use Rattle.orm.specs.Constraints.{members_of, constraints, K3, breaks}
use Rattle.orm.specs.Outcome.{refused, accepted}
use Rattle.orm.specs.Calls.{diagram_in, population_in, read_call, write_call, check_call, populate_call, validate_call}
use Rattle.orm.specs.Program.{program}
use Rattle.orm.specs.Meaning.{Between, HasRange, ValidPopulation}
use Rattle.orm.specs.WellFormed.{TypeForm, WellFormed}
use Rattle.orm.specs.Climbs.{Reached}
use Rattle.reading.specs.Exact.{written}
use Rattle.reading.specs.Cutting.{text_form, table_form}
use Rattle.guarantee.specs.Guarantee.{Populated}
pub mod Before
pub mod CallsBefore
use Rattle.guarantee.specs.SubtypeRanges.Before.{WithoutRanges, diagram_in01, upper_in01, constraints_in01}
use Rattle.guarantee.specs.SubtypeRanges.CallsBefore.{read_call_in01, write_call_in01, check_call_in01, populate_call_in01, validate_call_in01, program_in01}

-- ---- a pair on a subtype

-- 'A subtype may now give FIRST and LAST': it writes another pair than 0,0
pub record RangedSubtype (t : ObjectType) : Type 0 where
  pub subtype : ¬ (t.super ≡ 0)
  pub given : ¬ ((t.first ≡ 0) × (t.last ≡ 0))

-- 'A pair 0,0 on a subtype'
pub record PlainSubtype (t : ObjectType) : Type 0 where
  pub subtype : ¬ (t.super ≡ 0)
  pub first : t.first ≡ 0
  pub last : t.last ≡ 0

-- 'FIRST is its root's FIRST and LAST is not below FIRST, nor above the LAST of the nearest type above it that gives one', among these types
pub record Allowed (types : List ObjectType) (t : ObjectType) : Type 0 where
  pub first_of_root : t.first ≡ first_at types (root types (index t.super))
  pub ordered : t.first ≤ t.last
  pub within_nearest : t.last ≤ last_at types (nearest types (index t.super))

-- ---- what the calls make of a table of the diagram

-- In these cells a member of the type with this number, which gives FIRST and LAST, is not FIRST to LAST
pub record OutOfRange (d : Diagram) (s : List ℕ) (number : ℕ) : Type 0 where
  pub place : ℕ
  pub type : ObjectType
  pub standing : At type d.types place
  pub numbered : number ≡ suc place
  pub ranged : HasRange type
  pub population : Population
  pub cut : population_in d s ≡ accepted population
  pub value : ℕ
  pub member : value ∈ members_of population number
  pub outside : ¬ Between type.first value type.last

pub record TableRanges (table : List ℕ) (d : Diagram) : Type 0 where
  -- 'A subtype may now give FIRST and LAST if ..'
  pub allowed : {a : ℕ} {t : ObjectType} → At t d.types a → RangedSubtype t → Allowed d.types t
  -- 'Its starting ceiling is then also at most LAST - FIRST + 1', and so is its settled size
  pub starts : {a : ℕ} {t : ObjectType} → At t d.types a → RangedSubtype t → get_or (upper d) a 0 ≡ min t.max (t.last - t.first + 1)
  pub settles : {a : ℕ} {t : ObjectType} → At t d.types a → RangedSubtype t → (p : Populated table d)
      → size p.settled a ≤ t.last - t.first + 1
  -- 'and K3 covers it': validating accepts no other members, and names with K3 a type that has others
  pub covered : {s : List ℕ} (o : ValidPopulation d s) {a : ℕ} {t : ObjectType} → At t d.types a → RangedSubtype t
      → (v : ℕ) → v ∈ members_of o.population (suc a) → Between t.first v t.last
  pub validated : (s : List ℕ) (number : ℕ) → validate_call table s ≡ accepted (breaks 3 number) → OutOfRange d s number
  -- 'A pair 0,0 on a subtype still means none': it starts at its MAX, whatever is above it
  pub starts_plain : {a : ℕ} {t : ObjectType} → At t d.types a → PlainSubtype t → get_or (upper d) a 0 ≡ t.max

-- ---- 'Every file accepted before gives the answer it gave'

pub record Unchanged : Type 0 where
  -- of every text and every table: what was accepted is what is accepted and gives no range on a subtype, as the same diagram; and what was refused
  -- with another number than 4 is so still
  pub form : (next : LineKind → List ℕ → Cut) (s : List ℕ) (d : Diagram)
      → (diagram_in01 next s ≡ accepted d) ↔ ((diagram_in next s ≡ accepted d) × WithoutRanges d)
  pub refusals : (next : LineKind → List ℕ → Cut) (s : List ℕ) (number place round : ℕ) → diagram_in01 next s ≡ refused number place round
      → ¬ (number ≡ 4) → diagram_in next s ≡ refused number place round
  -- of every diagram with no range on a subtype: its bounds and its constraints (the limits and lower bounds don't speak of FIRST and LAST)
  pub bounds : (d : Diagram) → WithoutRanges d → upper d ≡ upper_in01 d
  pub constrained : (d : Diagram) → WithoutRanges d → (o : Population) → constraints d o ≡ constraints_in01 d o
  -- so of every file, and of every table, that was accepted: each call, and the program
  pub reads : (text : List ℕ) (d : Diagram) → diagram_in01 text_line text ≡ accepted d → (space : ℕ) → read_call text space ≡ read_call_in01 text space
  pub writes : (t : List ℕ) (d : Diagram) → diagram_in01 table_line t ≡ accepted d → (space : ℕ) → write_call t space ≡ write_call_in01 t space
  pub checks : (t : List ℕ) (d : Diagram) → diagram_in01 table_line t ≡ accepted d → (space : ℕ) → check_call t space ≡ check_call_in01 t space
  pub populates : (t : List ℕ) (d : Diagram) → diagram_in01 table_line t ≡ accepted d → (space : ℕ) → populate_call t space ≡ populate_call_in01 t space
  pub validates : (t : List ℕ) (d : Diagram) → diagram_in01 table_line t ≡ accepted d → (s : List ℕ) → validate_call t s ≡ validate_call_in01 t s
  pub prints : (input : List ℕ) (d : Diagram) → diagram_in01 text_line (take 8192 input) ≡ accepted d → program input ≡ program_in01 input

-- ---- the first lines of a file

-- The first line with this kind, the `types` line with this number, the lines of these types and of one type more
abbrev pub type_lines : ℕ → ℕ → List ObjectType → ObjectType → List Line
type_lines kind n ts t = line_of_count diagram_line kind ∷ line_of_count types_line n ∷ map line_of_type ts ++ line_of_type t ∷ []

-- After these types, which have no fault, nothing that comes before FIRST and LAST is wrong with the line of this type: its numbers are in range (2),
-- SUPER is below its own number (3), and MIN is not above MAX (4)
pub record OnlyPair (kind n : ℕ) (ts : List ObjectType) (t : ObjectType) : Type 0 where
  pub kinds : Between 1 kind 2
  pub types : Between 1 n 32
  pub room : length ts < n
  pub faultless : EachFrom (TypeForm ts) 1 ts
  pub within_ranges : in_ranges (ranges type_line) (line_of_type t).values ≡ true
  pub above : t.super < suc (length ts)
  pub sizes : t.min ≤ t.max

-- ---- S-5

pub record SubtypeRanges : Type 0 where
  pub of_table : (table : List ℕ) (d : Diagram) → diagram_in table_line table ≡ accepted d → TableRanges table d
  -- 'A subtype may now give FIRST and LAST if ..': no test of the line asks for more
  pub may_give : (types : List ObjectType) {t : ObjectType} → RangedSubtype t → (values_in_order types t ≡ true) ↔ Allowed types t
  -- 'its root', 'the nearest type above it that gives one': what the climbs reach
  pub root_is : {d : Diagram} → WellFormed d → (a : ℕ) → Reached (is_root_at d.types) d.types a (root d.types a)
  pub nearest_is : {d : Diagram} → WellFormed d → (a : ℕ) → Reached (has_range_at d.types) d.types a (nearest d.types a)
  -- 'A pair 0,0 on a subtype still means none, also under a root whose FIRST is 0': it is always allowed, bounds nothing and has no K3
  pub none_given : {t : ObjectType} → PlainSubtype t
      → ((types : List ObjectType) → values_in_order types t ≡ true) × (upper_of_type t ≡ t.max) × ((vs : List ℕ) → K3 t vs ≡ true)
  -- 'Every file accepted before gives the answer it gave'
  pub unchanged : Unchanged
  -- 'Errors: 4 keeps its place and covers the subtype pairs that this rule doesn't allow': in a text and in a table, whatever follows
  pub refuses : (kind n : ℕ) (ts : List ObjectType) (t : ObjectType) → OnlyPair kind n ts t → RangedSubtype t → ¬ Allowed ts t → (rest : List ℕ)
      → (diagram_in text_line (written text_form (type_lines kind n ts t) ++ rest) ≡ refused 4 (3 + length ts) 0)
      × (diagram_in table_line (written table_form (type_lines kind n ts t) ++ rest) ≡ refused 4 (3 + length ts) 0)
