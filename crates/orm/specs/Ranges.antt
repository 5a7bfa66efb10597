-- The ranges of all fields, as a list.
use Rattle.std.specs.Prelude.{ℕ, suc}
use mathlib.Core.List.{List, [], ◌∷◌, map, flatten}
use Rattle.orm.specs.Diagram.{LineKind, diagram_line, types_line, type_line, preds_line, pred_line, role_line, limited_role_line, freq_line, end_line}
use Rattle.orm.specs.Form.{Range, ◌to◌, unlimited, ranges}

-- A field with a range: its key, its number on the line, from 0, and its low and high bound
pub data Field : Type 0 where
  field : LineKind → ℕ → ℕ → ℕ → Field

-- of a key, from this number on
unfoldable pub fields_from : LineKind → ℕ → List Range → List Field
fields_from k i [] = []
fields_from k i (low to high ∷ rs) = field k i low high ∷ fields_from k (suc i) rs
fields_from k i (unlimited ∷ rs) = fields_from k (suc i) rs

-- of all keys, in the order of the file; those of a role line in `diagram=1`, then in `diagram=2`
unfoldable pub ranged_fields : List Field
ranged_fields = flatten (map (λ (k : LineKind). fields_from k 0 (ranges k))
    (diagram_line ∷ types_line ∷ type_line ∷ preds_line ∷ pred_line ∷ role_line ∷ limited_role_line ∷ freq_line ∷ end_line ∷ []))

-- T, P 1..32; 'Ranges: the first line 1; MIN, MAX, FMIN, FMAX 1..4096; FIRST, LAST 0..999999; SUPER 0..32 (0: none); INDEP, MAND 0..1;
-- ROLES 1..6; GROUPS 0..6; TYPE 1..32; GROUP 0..6'; 'RMIN and RMAX, 1..4096', and '2 now allows 1..2 on the first line' (document 02, S-8). There
-- are no others: '`end` has no range of its own'
abbrev pub document_ranges : List Field
document_ranges =
    field diagram_line 0 1 2  -- the first line
    ∷ field types_line 0 1 32  -- T
    ∷ field type_line 0 1 4096  -- MIN
    ∷ field type_line 1 1 4096  -- MAX
    ∷ field type_line 2 0 999999  -- FIRST
    ∷ field type_line 3 0 999999  -- LAST
    ∷ field type_line 4 0 32  -- SUPER
    ∷ field type_line 5 0 1  -- INDEP
    ∷ field preds_line 0 1 32  -- P
    ∷ field pred_line 0 1 4096  -- MIN
    ∷ field pred_line 1 1 4096  -- MAX
    ∷ field pred_line 2 1 6  -- ROLES
    ∷ field pred_line 3 0 6  -- GROUPS
    ∷ field role_line 0 1 32  -- TYPE
    ∷ field role_line 1 0 1  -- MAND
    ∷ field role_line 2 0 6  -- GROUP
    ∷ field limited_role_line 0 1 32  -- TYPE
    ∷ field limited_role_line 1 0 1  -- MAND
    ∷ field limited_role_line 2 0 6  -- GROUP
    ∷ field limited_role_line 3 1 4096  -- RMIN
    ∷ field limited_role_line 4 1 4096  -- RMAX
    ∷ field freq_line 0 1 4096  -- FMIN
    ∷ field freq_line 1 1 4096  -- FMAX
    ∷ []
