-- Worked examples of form: further causes of refusal 1 in a text, and the refusals of a table.
use Rattle.std.specs.Prelude.{ℕ, ◌≡◌, refl, List, [], ◌∷◌, ◌++◌, map}
use Prim.Native.String.{String}
use Rattle.orm.specs.Text.{bytes}
use Rattle.orm.specs.Outcome.{Outcome, refused, Sized}
use Rattle.orm.specs.Calls.{read_call, check_call}
use Rattle.orm.proofs.Cases.All.{everything}
use Rattle.orm.proofs.Cases.Marked.{table_space}

-- 'wrong key, digits, number of values, missing line feed, end too early, anything after the last line'
malformed : List (Outcome (List ℕ))
malformed = map (λ (s : String). read_call (bytes s) table_space)
    ("diagram=1\ntype=1\n"
    ∷ "diagram=1\ntypes=1234567\n"
    ∷ "diagram=1\ntypes=\n"
    ∷ "diagram=1\ntypes=+1\n"
    ∷ "diagram=1\r\n"
    ∷ "diagram=1\ntypes=1,2\n"
    ∷ "diagram=1\ntypes=33"
    ∷ ""
    ∷ "diagram=1\ntypes=1\ntype=1,5,0,9,0,1\npreds=1\npred=1,9,1,0\nrole=1,0,0\nend=1\n\n"
    ∷ [])

malformed_hold :
    malformed
    ≡ refused 1 2 0 ∷ refused 1 2 0 ∷ refused 1 2 0 ∷ refused 1 2 0 ∷ refused 1 1 0
    ∷ refused 1 2 0 ∷ refused 1 2 0 ∷ refused 1 1 0 ∷ refused 1 8 0 ∷ []
unfolding everything malformed
malformed_hold = refl

-- A diagram with one type and one role, but for its `end`
unended : List ℕ
unended = 1 ∷ 1 ∷ 1 ∷ 9 ∷ 0 ∷ 9 ∷ 0 ∷ 1 ∷ 1 ∷ 1 ∷ 9 ∷ 1 ∷ 0 ∷ 1 ∷ 0 ∷ 0 ∷ []

tables : List (Outcome Sized)
tables = map (λ (t : List ℕ). check_call t 0)
    ( -- a line cut short; no number at all; surplus after the last line
    (1 ∷ 1 ∷ 1 ∷ 9 ∷ 0 ∷ 9 ∷ 0 ∷ [])
    ∷ []
    ∷ (unended ++ 1 ∷ 0 ∷ [])
    -- a table has no digit rule; `end` has no range, and a wrong one comes before surplus
    ∷ (1 ∷ 1000000 ∷ [])
    ∷ (unended ++ 4294967295 ∷ 0 ∷ [])
    ∷ [])

tables_hold : tables ≡ refused 1 3 0 ∷ refused 1 1 0 ∷ refused 1 8 0 ∷ refused 2 2 0 ∷ refused 6 7 0 ∷ []
unfolding everything tables unended
tables_hold = refl
