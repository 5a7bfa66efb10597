-- Worked examples: what check and populate leave in the buffer and hand back, refusals too.
use Rattle.std.specs.Prelude.{ℕ, ◌≡◌, refl, List, [], ◌∷◌, map, replicate}
use Rattle.orm.specs.Outcome.{refused, accepted, buffer_after, length_of, written, handed_back}
use Rattle.orm.specs.Calls.{read_call, check_call, populate_call}
use Rattle.orm.proofs.Cases.All.{everything}
use Rattle.orm.specs.Sample.{text, sample_with, sample}
use Rattle.orm.proofs.Cases.Sample.{table}

-- P9: emptied at round 0
emptied : List ℕ
emptied =
    1 ∷ 2 ∷ 3 ∷ 5 ∷ 1 ∷ 2 ∷ 0 ∷ 1 ∷ 1 ∷ 2 ∷ 1 ∷ 2 ∷ 0 ∷ 0
    ∷ 1 ∷ 1 ∷ 100 ∷ 2 ∷ 1 ∷ 1 ∷ 1 ∷ 1 ∷ 2 ∷ 0 ∷ 0 ∷ 1 ∷ 2 ∷ 2 ∷ []

-- enough space; too little; emptied; a fault of form
buffers_after :
    buffer_after (written (check_call table 8)) (replicate 8 7) ∷ buffer_after (written (check_call table 5)) (replicate 5 7)
    ∷ buffer_after (written (populate_call table 19)) (replicate 19 7) ∷ buffer_after (written (check_call emptied 8)) (replicate 8 7)
    ∷ buffer_after (written (populate_call [] 8)) (replicate 8 7) ∷ []
    ≡ (3 ∷ 2 ∷ 6 ∷ 3 ∷ 2 ∷ 3 ∷ 7 ∷ 7 ∷ []) ∷ replicate 5 7 ∷ replicate 19 7 ∷ replicate 8 7 ∷ replicate 8 7 ∷ []
unfolding everything table emptied
buffers_after = refl

handed-back :
    map handed_back (check_call table 8 ∷ populate_call table 30 ∷ check_call table 5 ∷ check_call emptied 8 ∷ [])
    ≡ accepted (record { rounds = 4; result_length = 6 }) ∷ accepted (record { rounds = 4; result_length = 20 }) ∷ refused 8 6 0 ∷ refused 7 1 0 ∷ []
unfolding everything table emptied
handed-back = refl

read_length : length_of (read_call (text sample) 30) ≡ accepted 28
unfolding everything text sample_with sample
read_length = refl
