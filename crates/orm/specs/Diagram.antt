-- A diagram and its lines in file order (document 01, 'The diagram file').
use Rattle.std.specs.Prelude.{ℕ, ◌-◌, Bool, true, false, not, ◌&&◌, ◌||◌, eqb, length}
use mathlib.Core.List.{List, [], ◌∷◌, ◌++◌, map, flat_map}
use Rattle.counting.specs.Distinct.{member}

-- `type=MIN,MAX,FIRST,LAST,SUPER,INDEP`
pub record ObjectType : Type 0 where
  pub min : ℕ
  pub max : ℕ
  pub first : ℕ
  pub last : ℕ
  pub super : ℕ
  pub indep : ℕ

-- `role=TYPE,MAND,GROUP`, or with 'two more numbers after GROUP, RMIN and RMAX, .. the fewest and most different members in that role'
-- (document 02, S-8)
pub record Role : Type 0 where
  pub type : ℕ
  pub mand : ℕ
  pub group : ℕ
  pub rmin : ℕ
  pub rmax : ℕ

-- `freq=FMIN,FMAX`: a frequency group; uniqueness is frequency 1..1
pub record Frequency : Type 0 where
  pub fmin : ℕ
  pub fmax : ℕ

-- `pred=MIN,MAX,ROLES,GROUPS` with its role lines and its freq lines
pub record Predicate : Type 0 where
  pub min : ℕ
  pub max : ℕ
  pub roles : List Role
  pub groups : List Frequency

-- `diagram=1` or `diagram=2`: its kind
pub record Diagram : Type 0 where
  pub kind : ℕ
  pub types : List ObjectType
  pub preds : List Predicate

-- 'A type with SUPER 0 is a root'
unfoldable pub is_root : ObjectType → Bool
is_root t = eqb t.super 0

-- INDEP 1: the type is independent
unfoldable pub is_independent : ObjectType → Bool
is_independent t = eqb t.indep 1

-- MAND 1: the role is mandatory
unfoldable pub is_mandatory : Role → Bool
is_mandatory r = eqb r.mand 1

-- GROUP '0: in no frequency group'
unfoldable pub is_grouped : Role → Bool
is_grouped r = not (eqb r.group 0)

-- Document 01 numbers types, predicates and groups from 1; a list is indexed from 0
abbrev pub index : ℕ → ℕ
index number = number - 1

-- All roles and all groups of the diagram, in file order
unfoldable pub all_roles : Diagram → List Role
all_roles d = flat_map (λ (p : Predicate). p.roles) d.preds

unfoldable pub all_groups : Diagram → List Frequency
all_groups d = flat_map (λ (p : Predicate). p.groups) d.preds

-- Whether the type with this number plays one of these roles: TYPE is that very type, and none above or below it
unfoldable pub plays : ℕ → List Role → Bool
plays number rs = member eqb number (map (λ (r : Role). r.type) rs)

-- Whether each member of the type with this number must be in a role that the type plays: it is not independent, and 'a non-independent subtype that
-- plays no role is free' (document 02, S-2)
unfoldable pub must_play : Diagram → ℕ → ObjectType → Bool
must_play d number t = not (is_independent t) && (is_root t || plays number (all_roles d))

-- How many types, predicates, roles and groups a diagram has: what reading a table hands back
pub record Totals : Type 0 where
  pub types : ℕ
  pub preds : ℕ
  pub roles : ℕ
  pub groups : ℕ

unfoldable pub totals : Diagram → Totals
totals d = record { types = length d.types; preds = length d.preds; roles = length (all_roles d); groups = length (all_groups d) }

-- The keys; a role line with RMIN and RMAX is a kind of its own
pub data LineKind : Type 0 where
  diagram_line types_line type_line preds_line pred_line role_line limited_role_line freq_line end_line : LineKind

-- A line: its key and its numbers
pub record Line : Type 0 where
  pub kind : LineKind
  pub values : List ℕ

unfoldable pub line_of_type : ObjectType → Line
line_of_type t = record { kind = type_line; values = t.min ∷ t.max ∷ t.first ∷ t.last ∷ t.super ∷ t.indep ∷ [] }

-- 'In files that begin `diagram=2` a role line has two more numbers'
unfoldable pub limits_roles : ℕ → Bool
limits_roles kind = eqb kind 2

unfoldable pub role_line_of : ℕ → LineKind
role_line_of kind = elim (limits_roles kind) [ true ↦ limited_role_line | false ↦ role_line ]

-- Of a diagram of this kind: 'In `diagram=1` they .. are not written'
unfoldable pub line_of_role : ℕ → Role → Line
line_of_role kind r = record {
  kind = role_line_of kind;
  values = r.type ∷ r.mand ∷ r.group ∷ elim (limits_roles kind) [ true ↦ r.rmin ∷ r.rmax ∷ [] | false ↦ [] ];
}

unfoldable pub line_of_group : Frequency → Line
line_of_group f = record { kind = freq_line; values = f.fmin ∷ f.fmax ∷ [] }

unfoldable pub line_of_pred : Predicate → Line
line_of_pred p = record { kind = pred_line; values = p.min ∷ p.max ∷ length p.roles ∷ length p.groups ∷ [] }

-- 'for each predicate `pred=MIN,MAX,ROLES,GROUPS`, its lines `role=TYPE,MAND,GROUP`, its lines `freq=FMIN,FMAX`'
unfoldable pub lines_of_pred : ℕ → Predicate → List Line
lines_of_pred kind p = line_of_pred p ∷ map (line_of_role kind) p.roles ++ map line_of_group p.groups

-- A line with one number
unfoldable pub line_of_count : LineKind → ℕ → Line
line_of_count k n = record { kind = k; values = n ∷ [] }

-- 'Lines in this order, no others'; `end=` 'the number of role lines in the file'
unfoldable pub lines : Diagram → List Line
lines d =
    line_of_count diagram_line d.kind
    ∷ line_of_count types_line (length d.types) ∷ map line_of_type d.types
    ++ line_of_count preds_line (length d.preds) ∷ flat_map (lines_of_pred d.kind) d.preds
    ++ line_of_count end_line (length (all_roles d)) ∷ []

-- 'The table form holds the same numbers in file order'
unfoldable pub table : Diagram → List ℕ
table d = flat_map (λ (l : Line). l.values) (lines d)
