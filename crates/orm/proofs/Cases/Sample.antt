-- Worked examples: every call on the sample, with just enough space and with too little, and the buffer afterwards.
use Rattle.std.specs.Prelude.{ℕ, ◌≡◌, refl, List, [], ◌∷◌, ◌++◌, map, replicate}
use Rattle.orm.specs.Constraints.{valid}
use Rattle.orm.specs.Outcome.{Outcome, refused, accepted, Sized, buffer_after}
use Rattle.orm.specs.Calls.{read_call, write_call, check_call, populate_call, validate_call}
use Rattle.orm.proofs.Cases.All.{everything}
use Rattle.orm.specs.Sample.{text, sample_with, sample}

-- The sample's table
unfoldable pub table : List ℕ
table =
    1 ∷ 2 ∷ 1 ∷ 3 ∷ 1 ∷ 9 ∷ 0 ∷ 0 ∷ 1 ∷ 2 ∷ 1 ∷ 2 ∷ 0 ∷ 0
    ∷ 1 ∷ 1 ∷ 100 ∷ 2 ∷ 1 ∷ 1 ∷ 1 ∷ 1 ∷ 2 ∷ 0 ∷ 0 ∷ 1 ∷ 2 ∷ 2 ∷ []

-- the types' cells, and the predicate's
type_cells : List ℕ
type_cells = 3 ∷ 1 ∷ 2 ∷ 3 ∷ 2 ∷ 1 ∷ 2 ∷ []

pred_cells : List ℕ
pred_cells = 6 ∷ 1 ∷ 1 ∷ 2 ∷ 2 ∷ 3 ∷ 1 ∷ 1 ∷ 2 ∷ 2 ∷ 1 ∷ 3 ∷ 2 ∷ []

rounds4 : List ℕ → Outcome Sized
rounds4 result = accepted (record { rounds = 4; result = result })

sample-read :
    read_call (text sample) 28 ∷ read_call (text sample) 27 ∷ write_call table 112 ∷ write_call table 111 ∷ []
    ≡ accepted table ∷ refused 8 28 0 ∷ accepted (text sample) ∷ refused 8 112 0 ∷ []
unfolding everything text sample_with sample table
sample-read = refl

sample-sized :
    check_call table 6 ∷ check_call table 5 ∷ populate_call table 20 ∷ populate_call table 19 ∷ []
    ≡ rounds4 (3 ∷ 2 ∷ 6 ∷ 3 ∷ 2 ∷ 3 ∷ []) ∷ refused 8 6 0 ∷ rounds4 (type_cells ++ pred_cells) ∷ refused 8 20 0 ∷ []
unfolding everything table type_cells pred_cells rounds4
sample-sized = refl

sample-buffer :
    buffer_after (read_call (text sample) 30) (replicate 30 7) ∷ buffer_after (read_call (text sample) 20) (replicate 20 7) ∷ []
    ≡ (table ++ 7 ∷ 7 ∷ []) ∷ replicate 20 7 ∷ []
unfolding everything text sample_with sample table
sample-buffer = refl

-- 'Cells that end early are placed at their count, surplus ones at the first of them': no cell; one too few; one too many; a size past
-- the end; the population itself
sample-validated :
    map (validate_call table)
    ([] ∷ (type_cells ++ 1 ∷ 1 ∷ []) ∷ (type_cells ++ pred_cells ++ 1 ∷ []) ∷ (4294967295 ∷ 1 ∷ []) ∷ (type_cells ++ pred_cells) ∷ [])
    ≡ refused 9 0 0 ∷ refused 9 9 0 ∷ refused 9 20 0 ∷ refused 9 2 0 ∷ accepted valid ∷ []
unfolding everything table type_cells pred_cells
sample-validated = refl
