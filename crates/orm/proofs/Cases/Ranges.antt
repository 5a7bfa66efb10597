-- The ranges of all fields; and worked examples of form: on each line what is out of range, before what else is wrong with it; and
-- the largest diagrams.
use Rattle.std.specs.Prelude.{ℕ, ◌≡◌, refl, replicate}
use Prim.Native.String.{String}
use mathlib.Core.List.{List, [], ◌∷◌, ◌++◌, map, flatten}
use Rattle.orm.specs.Text.{table_line}
use Rattle.orm.specs.Diagram.{Totals, totals}
use Rattle.orm.specs.Outcome.{Outcome, refused, accepted, ◌>>=◌}
use Rattle.orm.specs.Calls.{diagram_in, read_call}
use Rattle.orm.proofs.Cases.All.{everything}
use Rattle.orm.specs.Sample.{text}
use Rattle.orm.specs.Ranges.{fields_from, ranged_fields, document_ranges}

pub ranged-fields : ranged_fields ≡ document_ranges
unfolding everything ranged_fields fields_from
ranged-fields = refl

-- of the first of one type
type_lines : List (Outcome (List ℕ))
type_lines = map (λ (s : String). read_call (text ("diagram=1" ∷ "types=1" ∷ s ∷ [])) 0)
    ("type=1,5,0,0,33,0" ∷ "type=1,5,0,0,32,0" ∷ "type=4097,1,0,0,0,0" ∷ "type=1,0,0,9,0,0" ∷ "type=5,1,0,0,1,0" ∷ "type=1,5,9,0,1,0"
    ∷ "type=5,1,0,0,33,0" ∷ [])

type-lines : type_lines ≡
    refused 2 3 0 ∷ refused 3 3 0 ∷ refused 2 3 0 ∷ refused 2 3 0 ∷ refused 3 3 0 ∷ refused 3 3 0 ∷ refused 2 3 0 ∷ []
unfolding everything text type_lines
type-lines = refl

-- of the first predicate
pred_lines : List (Outcome (List ℕ))
pred_lines = map (λ (s : String). read_call (text ("diagram=1" ∷ "types=1" ∷ "type=1,5,0,9,0,1" ∷ "preds=1" ∷ s ∷ [])) 0)
    ("pred=4097,1,1,0" ∷ "pred=1,0,1,0" ∷ "pred=9,1,7,0" ∷ "pred=9,1,1,7" ∷ "pred=9,1,1,0" ∷ [])

pred-lines : pred_lines ≡ refused 2 5 0 ∷ refused 2 5 0 ∷ refused 2 5 0 ∷ refused 2 5 0 ∷ refused 4 5 0 ∷ []
unfolding everything text pred_lines
pred-lines = refl

-- under one type and one group
role_lines : List (Outcome (List ℕ))
role_lines = map (λ (s : String). read_call (text ("diagram=1" ∷ "types=1" ∷ "type=1,5,0,9,0,1" ∷ "preds=1" ∷ "pred=1,9,1,1" ∷ s ∷ [])) 0)
    ("role=33,0,1" ∷ "role=32,0,1" ∷ "role=1,0,7" ∷ "role=1,0,6" ∷ [])

role-lines : role_lines ≡ refused 2 6 0 ∷ refused 3 6 0 ∷ refused 2 6 0 ∷ refused 3 6 0 ∷ []
unfolding everything text role_lines
role-lines = refl

-- of a group that no role names
freq_lines : List (Outcome (List ℕ))
freq_lines = map (λ (s : String). read_call
    (text ("diagram=1" ∷ "types=1" ∷ "type=1,5,0,9,0,1" ∷ "preds=1" ∷ "pred=1,9,1,1" ∷ "role=1,0,0" ∷ s ∷ [])) 0)
    ("freq=4097,1" ∷ "freq=1,0" ∷ "freq=3,2" ∷ "freq=2,3" ∷ [])

freq_lines_lem : freq_lines ≡ refused 2 7 0 ∷ refused 2 7 0 ∷ refused 4 7 0 ∷ refused 5 7 0 ∷ []
unfolding everything text freq_lines
freq_lines_lem = refl

-- ---- the largest diagrams

-- One type, these predicates, and what follows them
one : List ℕ → List ℕ → List ℕ
one preds end = 1 ∷ 1 ∷ 1 ∷ 9 ∷ 0 ∷ 999999 ∷ 0 ∷ 1 ∷ preds ++ end

-- a predicate of six roles, each in a group of its own
six : List ℕ
six = 1 ∷ 9 ∷ 6 ∷ 6 ∷ 1 ∷ 0 ∷ 1 ∷ 1 ∷ 0 ∷ 2 ∷ 1 ∷ 0 ∷ 3 ∷ 1 ∷ 0 ∷ 4 ∷ 1 ∷ 0 ∷ 5 ∷ 1 ∷ 0 ∷ 6 ∷ flatten (replicate 6 (4096 ∷ 4096 ∷ []))

-- of six roles in no group
six_roles : List ℕ
six_roles = 1 ∷ 9 ∷ 6 ∷ 0 ∷ flatten (replicate 6 (1 ∷ 0 ∷ 0 ∷ []))

-- of one role, with MIN above MAX
single : List ℕ
single = 9 ∷ 1 ∷ 1 ∷ 0 ∷ 1 ∷ 0 ∷ 0 ∷ []

-- 96 roles; one more, and MIN above MAX; 48 groups; one more; 32 predicates
largest : List (Outcome Totals)
largest = map (λ (t : List ℕ). diagram_in table_line t >>= λ d. accepted (totals d))
    (one (16 ∷ flatten (replicate 16 six_roles)) (96 ∷ [])
    ∷ one (17 ∷ flatten (replicate 16 six_roles)) single
    ∷ one (8 ∷ flatten (replicate 8 six)) (48 ∷ [])
    ∷ one (9 ∷ flatten (replicate 8 six)) (1 ∷ 9 ∷ 1 ∷ 1 ∷ 1 ∷ 0 ∷ 1 ∷ [])
    ∷ one (32 ∷ flatten (replicate 32 (1 ∷ 9 ∷ 1 ∷ 0 ∷ 1 ∷ 0 ∷ 0 ∷ []))) (32 ∷ [])
    ∷ [])

largest_hold : largest ≡
    accepted (record { types = 1; preds = 16; roles = 96; groups = 0 })
    ∷ refused 2 117 0
    ∷ accepted (record { types = 1; preds = 8; roles = 48; groups = 48 })
    ∷ refused 2 109 0
    ∷ accepted (record { types = 1; preds = 32; roles = 32; groups = 0 })
    ∷ []
unfolding everything largest one six six_roles single
largest_hold = refl
