-- The form of a table that every crate above reading walks: its role lines have five numbers in both kinds. 'In `diagram=1` they read as 1 and
-- 4096' (document 02, S-8), which stand behind the three of the file; its first number stays. In `diagram=2` it is the table itself.
use Rattle.std.specs.Prelude.{ℕ, get_or}
use mathlib.Core.List.{List, [], ◌∷◌, ◌++◌, flat_map}
use Rattle.orm.specs.Diagram.{Role, Diagram, Line, LineKind, diagram_line, types_line, type_line, preds_line, pred_line, role_line, limited_role_line, freq_line, end_line, lines}

-- How many numbers a role line has
abbrev pub role_width : ℕ
role_width = 5

-- What stands behind the numbers of a line of the file
unfoldable pub added : LineKind → List ℕ
added diagram_line = []
added types_line = []
added type_line = []
added preds_line = []
added pred_line = []
added role_line = 1 ∷ 4096 ∷ []
added limited_role_line = []
added freq_line = []
added end_line = []

abbrev pub wide_line : Line → List ℕ
wide_line l = l.values ++ added l.kind

-- The role whose numbers stand here
abbrev pub wide_role : List ℕ → Role
wide_role v = record { type = get_or v 0 0; mand = get_or v 1 0; group = get_or v 2 0; rmin = get_or v 3 0; rmax = get_or v 4 0 }

unfoldable pub wide_table : Diagram → List ℕ
wide_table d = flat_map wide_line (lines d)

-- No table is longer: 1, 1, 32 types, 1, 32 predicates, 96 roles, 48 groups, 1
abbrev pub most_numbers : ℕ
most_numbers = 900
