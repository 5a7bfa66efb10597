-- What every line must hold, and the reading of a diagram line by line (document 01, 'The diagram file' and refusals 1 to 6).
-- The reading is the same for the text and for the table: they differ in how the next line is cut off.
use Rattle.std.specs.Prelude.{ℕ, zero, suc, ◌+◌, Bool, true, false, ◌&&◌, ◌||◌, List, [], ◌∷◌, ◌++◌, leb, ltb, eqb, length, get_or}
use Rattle.std.proofs.Math.Option.{Option, none, some}
use Rattle.counting.specs.Lists.{up_from}
use Rattle.orm.specs.Diagram.{ObjectType, Role, Frequency, Predicate, Diagram, LineKind, diagram_line, types_line, type_line, preds_line, pred_line, role_line, limited_role_line, freq_line, end_line, is_root, index, limits_roles, role_line_of, all_roles}
use Rattle.orm.specs.Supertypes.{first_value, has_range, last_value}
use Rattle.orm.specs.Reader.{Reading, rejected, read, Reader, ◌>>=◌, pure, for_each, at_end, Cut, broken, cut}

-- What a number may be: from a low to a high bound, both taken in; or any number
infix 80 ◌to◌
pub data Range : Type 0 where
  ◌to◌ : ℕ → ℕ → Range
  unlimited : Range

-- 'Ranges': of each number on the line, in order. '`end` has no range of its own'
unfoldable pub ranges : LineKind → List Range
ranges diagram_line = 1 to 2 ∷ []
ranges types_line = 1 to 32 ∷ []
ranges type_line = 1 to 4096 ∷ 1 to 4096 ∷ 0 to 999999 ∷ 0 to 999999 ∷ 0 to 32 ∷ 0 to 1 ∷ []
ranges preds_line = 1 to 32 ∷ []
ranges pred_line = 1 to 4096 ∷ 1 to 4096 ∷ 1 to 6 ∷ 0 to 6 ∷ []
ranges role_line = 1 to 32 ∷ 0 to 1 ∷ 0 to 6 ∷ []
ranges limited_role_line = 1 to 32 ∷ 0 to 1 ∷ 0 to 6 ∷ 1 to 4096 ∷ 1 to 4096 ∷ []
ranges freq_line = 1 to 4096 ∷ 1 to 4096 ∷ []
ranges end_line = unlimited ∷ []

-- The number of values on a line
unfoldable pub fields : LineKind → ℕ
fields k = length (ranges k)

-- On a role line in `diagram=1`, and in `diagram=2` (reading: role-fields, limited-fields)
abbrev pub role_fields : ℕ
role_fields = 3

abbrev pub limited_role_fields : ℕ
limited_role_fields = 5

unfoldable pub in_range : Range → ℕ → Bool
in_range (low to high) v = leb low v && leb v high
in_range unlimited v = true

-- Each number is in its range; that they are as many was tested before, when the line was cut off
unfoldable pub in_ranges : List Range → List ℕ → Bool
in_ranges [] vs = true
in_ranges (r ∷ rs) [] = true
in_ranges (r ∷ rs) (v ∷ vs) = in_range r v && in_ranges rs vs

-- 'At most 96 roles and 48 groups in all'
unfoldable pub most_roles : ℕ
most_roles = 96

unfoldable pub most_groups : ℕ
most_groups = 48

-- Refusal `c` unless the test holds
infix 75 ◌unless◌
pub data Test : Type 0 where
  ◌unless◌ : ℕ → Bool → Test

-- The first refusal of a line's tests, which stand in the order 2, 3, 4, 5, 6
unfoldable pub first_of : List Test → Option ℕ
first_of [] = none
first_of (c unless true ∷ ts) = first_of ts
first_of (c unless false ∷ ts) = some c

-- A `types`, `preds`, `diagram` or `end` line holds one number
unfoldable pub count_of : List ℕ → ℕ
count_of v = get_or v 0 0

abbrev pub type_of : List ℕ → ObjectType
type_of v = record { min = get_or v 0 0; max = get_or v 1 0; first = get_or v 2 0; last = get_or v 3 0; super = get_or v 4 0; indep = get_or v 5 0 }

-- In a diagram of this kind; RMIN and RMAX in `diagram=1` 'read as 1 and 4096'
abbrev pub role_of : ℕ → List ℕ → Role
role_of kind v = record {
  type = get_or v 0 0;
  mand = get_or v 1 0;
  group = get_or v 2 0;
  rmin = elim (limits_roles kind) [ true ↦ get_or v 3 0 | false ↦ 1 ];
  rmax = elim (limits_roles kind) [ true ↦ get_or v 4 0 | false ↦ 4096 ];
}

abbrev pub group_of : List ℕ → Frequency
group_of v = record { fmin = get_or v 0 0; fmax = get_or v 1 0 }

-- The numbers on a `pred` line
pub record PredHead : Type 0 where
  pub min : ℕ
  pub max : ℕ
  pub roles : ℕ
  pub groups : ℕ

abbrev pub head_of : List ℕ → PredHead
head_of v = record { min = get_or v 0 0; max = get_or v 1 0; roles = get_or v 2 0; groups = get_or v 3 0 }

-- 'FIRST is its root's FIRST and LAST is not .. above the LAST of the nearest type above it that gives one': of a subtype, after these types
unfoldable pub within_super : List ObjectType → ObjectType → Bool
within_super before t =
    let above : ℕ = index t.super in
    eqb t.first (first_value before above) && leb t.last (last_value before above)

-- 'A type with SUPER 0 is a root; its values are whole numbers FIRST..LAST', 'A subtype may now give FIRST and LAST', or 0,0 for none
unfoldable pub values_in_order : List ObjectType → ObjectType → Bool
values_in_order before t = elim (has_range t) [ true ↦ leb t.first t.last && (is_root t || within_super before t) | false ↦ true ]

-- of the type with this number, after these types: 3 'SUPER not below own number', 4 'MIN above MAX', 'root with FIRST above LAST', and 'the
-- subtype pairs that this rule doesn't allow'
unfoldable pub type_tests : ℕ → List ObjectType → ObjectType → List Test
type_tests own before t = 3 unless ltb t.super own ∷ 4 unless leb t.min t.max ∷ 4 unless values_in_order before t ∷ []

-- after so many roles and groups: 2 'the `pred` line that passes either total is out of range', 4 'MIN above MAX'
unfoldable pub pred_tests : ℕ → ℕ → PredHead → List Test
pred_tests roles groups p =
    2 unless leb (roles + p.roles) most_roles ∷ 2 unless leb (groups + p.groups) most_groups ∷ 4 unless leb p.min p.max ∷ []

-- under so many types and groups: 3 'TYPE above T; GROUP above GROUPS', 4 'where RMIN is above RMAX'
unfoldable pub role_tests : ℕ → ℕ → Role → List Test
role_tests types groups r = 3 unless leb r.type types ∷ 3 unless leb r.group groups ∷ 4 unless leb r.rmin r.rmax ∷ []

-- Some role names the group
unfoldable pub named : ℕ → List Role → Bool
named g [] = false
named g (r ∷ rs) = eqb r.group g || named g rs

-- of the group with this number: 4 'FMIN above FMAX', 5 'a frequency group that no role names'
unfoldable pub group_tests : List Role → ℕ → Frequency → List Test
group_tests rs g f = 4 unless leb f.fmin f.fmax ∷ 5 unless named g rs ∷ []

-- 6 '`end` is not the number of roles'
unfoldable pub end_tests : ℕ → ℕ → List Test
end_tests roles n = 6 unless eqb n roles ∷ []

-- The place is the line number; `next` cuts off the numbers of a line of the kind that must come next
module _ (next : LineKind → List ℕ → Cut) where
  -- A line of this kind, made into an `A`: 'within it 1, 2, 3, 4, 5, 6'
  unfoldable pub line : {A : Type 0} → LineKind → (List ℕ → A) → (A → List Test) → Reader A
  line k make tests n s =
      elim (next k s) [
        | broken ↦ rejected 1 n
        | cut v rest ↦
            elim (first_of (2 unless in_ranges (ranges k) v ∷ tests (make v))) [
              | some c ↦ rejected c n
              | none ↦ read (make v) (suc n) rest
            ]
      ]

  -- A line with one number that has no test but its range
  unfoldable pub count : LineKind → Reader ℕ
  count k = line k count_of (λ n. [])

  -- So many types, after these
  unfoldable pub types_after : List ObjectType → ℕ → Reader (List ObjectType)
  types_after before zero = pure []
  types_after before (suc k) = do
    t ← line type_line type_of (type_tests (suc (length before)) before)
    ts ← types_after (before ++ t ∷ []) k
    pure (t ∷ ts)

  -- A predicate's lines, in a diagram of this kind, under so many types, after so many roles and groups
  unfoldable pub predicate : ℕ → ℕ → ℕ → ℕ → Reader Predicate
  predicate kind types roles groups = do
    p ← line pred_line head_of (pred_tests roles groups)
    rs ← for_each (λ (i : ℕ). line (role_line_of kind) (role_of kind) (role_tests types p.groups)) (up_from 1 p.roles)
    gs ← for_each (λ (g : ℕ). line freq_line group_of (group_tests rs g)) (up_from 1 p.groups)
    pure (record { min = p.min; max = p.max; roles = rs; groups = gs })

  -- So many predicates
  unfoldable pub predicates : ℕ → ℕ → ℕ → ℕ → ℕ → Reader (List Predicate)
  predicates kind types roles groups zero = pure []
  predicates kind types roles groups (suc k) = do
    p ← predicate kind types roles groups
    ps ← predicates kind types (roles + length p.roles) (groups + length p.groups) k
    pure (p ∷ ps)

  -- 'Lines in this order, no others'
  unfoldable pub diagram_lines : Reader Diagram
  diagram_lines = do
    kind ← count diagram_line
    t ← count types_line
    ts ← types_after [] t
    p ← count preds_line
    ps ← predicates kind t 0 0 p
    let d : Diagram = record { kind = kind; types = ts; preds = ps }
    n ← line end_line count_of (end_tests (length (all_roles d)))
    pure d

  -- 'anything after the last line'
  unfoldable pub whole_diagram : Reader Diagram
  whole_diagram = do
    d ← diagram_lines
    end ← at_end 1
    pure d

  -- 'The first offending line decides': lines count from 1
  unfoldable pub reading : List ℕ → Reading Diagram
  reading s = whole_diagram 1 s
