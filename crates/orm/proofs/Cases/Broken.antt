-- Worked examples: each constraint broken, and named as the lowest that is; and a valid population unlike the one that is made.
use Rattle.std.specs.Prelude.{ℕ, ◌≡◌, refl, List, [], ◌∷◌, map}
use Rattle.orm.specs.Text.{table_line}
use Rattle.orm.specs.Constraints.{sizes, Answer, valid, breaks}
use Rattle.orm.specs.Outcome.{Outcome, accepted, ◌>>=◌}
use Rattle.orm.specs.Calls.{diagram_in, population_in, validate_call}
use Rattle.orm.proofs.Cases.All.{everything}
use Rattle.orm.proofs.Cases.Sample.{table}

-- Of a diagram with a type 1..5, an independent subtype of it and an independent type 7..8, and one predicate: the first type mandatory and
-- in a group of frequency 1..2, and the third
in_diagram : List ℕ → Outcome Answer
in_diagram s = validate_call
    (1 ∷ 3 ∷ 1 ∷ 3 ∷ 1 ∷ 5 ∷ 0 ∷ 0 ∷ 1 ∷ 2 ∷ 0 ∷ 0 ∷ 1 ∷ 1 ∷ 1 ∷ 2 ∷ 7 ∷ 8 ∷ 0 ∷ 1
    ∷ 1 ∷ 1 ∷ 3 ∷ 2 ∷ 1 ∷ 1 ∷ 1 ∷ 1 ∷ 3 ∷ 0 ∷ 0 ∷ 1 ∷ 2 ∷ 2 ∷ [])
    s

constraints-tell :
    map in_diagram
    ((2 ∷ 1 ∷ 2 ∷ 1 ∷ 2 ∷ 1 ∷ 7 ∷ 2 ∷ 1 ∷ 7 ∷ 2 ∷ 7 ∷ [])
    ∷ (2 ∷ 1 ∷ 1 ∷ 1 ∷ 1 ∷ 1 ∷ 7 ∷ 1 ∷ 1 ∷ 7 ∷ [])
    ∷ (2 ∷ 1 ∷ 2 ∷ 0 ∷ 1 ∷ 7 ∷ 2 ∷ 1 ∷ 7 ∷ 2 ∷ 7 ∷ [])
    ∷ (2 ∷ 1 ∷ 6 ∷ 1 ∷ 1 ∷ 1 ∷ 7 ∷ 2 ∷ 1 ∷ 7 ∷ 6 ∷ 7 ∷ [])
    ∷ (2 ∷ 1 ∷ 2 ∷ 1 ∷ 3 ∷ 1 ∷ 7 ∷ 2 ∷ 1 ∷ 7 ∷ 2 ∷ 7 ∷ [])
    ∷ (2 ∷ 1 ∷ 2 ∷ 1 ∷ 2 ∷ 1 ∷ 7 ∷ 3 ∷ 1 ∷ 7 ∷ 2 ∷ 7 ∷ 1 ∷ 7 ∷ [])
    ∷ (2 ∷ 1 ∷ 2 ∷ 1 ∷ 2 ∷ 1 ∷ 7 ∷ 0 ∷ [])
    ∷ (2 ∷ 1 ∷ 2 ∷ 1 ∷ 2 ∷ 1 ∷ 7 ∷ 2 ∷ 1 ∷ 7 ∷ 2 ∷ 8 ∷ [])
    ∷ (2 ∷ 1 ∷ 2 ∷ 1 ∷ 2 ∷ 1 ∷ 7 ∷ 1 ∷ 1 ∷ 7 ∷ [])
    ∷ [])
    ≡ map accepted
    (valid ∷ breaks 1 1 ∷ breaks 2 2 ∷ breaks 3 1 ∷ breaks 4 2 ∷ breaks 5 1 ∷ breaks 6 1 ∷ breaks 7 1 ∷ breaks 8 1 ∷ [])
unfolding everything in_diagram
constraints-tell = refl

-- Of a diagram with one type 1..5 that is not independent, a role in a group of frequency 2..2 and an ungrouped role
in_pair : List ℕ → Outcome Answer
in_pair s = validate_call (1 ∷ 1 ∷ 1 ∷ 3 ∷ 1 ∷ 5 ∷ 0 ∷ 0 ∷ 1 ∷ 1 ∷ 4 ∷ 2 ∷ 1 ∷ 1 ∷ 0 ∷ 1 ∷ 1 ∷ 0 ∷ 0 ∷ 2 ∷ 2 ∷ 2 ∷ []) s

last-constraints-tell :
    map in_pair
    ((2 ∷ 1 ∷ 2 ∷ 2 ∷ 1 ∷ 1 ∷ 1 ∷ 2 ∷ [])
    ∷ (2 ∷ 1 ∷ 2 ∷ 2 ∷ 1 ∷ 1 ∷ 2 ∷ 1 ∷ [])
    ∷ (3 ∷ 1 ∷ 2 ∷ 3 ∷ 2 ∷ 1 ∷ 1 ∷ 1 ∷ 2 ∷ [])
    ∷ [])
    ≡ map accepted (valid ∷ breaks 9 1 ∷ breaks 10 1 ∷ [])
unfolding everything in_pair
last-constraints-tell = refl

-- ---- of the sample

-- Values with gaps and in no order, fewer than could be
other : List ℕ
other = 2 ∷ 9 ∷ 4 ∷ 2 ∷ 2 ∷ 1 ∷ 3 ∷ 9 ∷ 2 ∷ 4 ∷ 1 ∷ 9 ∷ 1 ∷ []

-- Both types repeat a value: the lowest number is named
twice : List ℕ
twice = 2 ∷ 1 ∷ 1 ∷ 2 ∷ 1 ∷ 1 ∷ 1 ∷ 1 ∷ 1 ∷ []

other-valid : map (validate_call table) (other ∷ twice ∷ []) ≡ map accepted (valid ∷ breaks 1 1 ∷ [])
unfolding everything table other twice
other-valid = refl

other-sizes : (diagram_in table_line table >>= λ d. population_in d other >>= λ o. accepted (sizes d o)) ≡ accepted (2 ∷ 2 ∷ 3 ∷ 2 ∷ 2 ∷ 2 ∷ [])
unfolding everything table other
other-sizes = refl
