-- Worked example with what the sample lacks: a subtype of a subtype, roles of both, an ungrouped role in front of the grouped ones, a group of
-- three roles that stand apart, two groups whose order shows, a second predicate.
use Rattle.std.specs.Prelude.{ℕ, ◌≡◌, refl, List, [], ◌∷◌, map}
use Rattle.fixpoint.specs.Limits.{product, sum, times, quotient}
use Rattle.orm.specs.Outcome.{accepted, ◌>>=◌}
use Rattle.orm.specs.Text.{table_line}
use Rattle.orm.specs.Sets.{at_most, limits, upper_after_rounds}
use Rattle.orm.specs.Calls.{diagram_in, populate_call}
use Rattle.orm.proofs.Cases.All.{everything}

table : List ℕ
table =
    1 ∷ 4 ∷ 1 ∷ 2 ∷ 10 ∷ 19 ∷ 0 ∷ 0 ∷ 1 ∷ 9 ∷ 0 ∷ 0 ∷ 1 ∷ 0 ∷ 1 ∷ 9 ∷ 0 ∷ 0 ∷ 2 ∷ 1 ∷ 3 ∷ 3 ∷ 30 ∷ 32 ∷ 0 ∷ 1
    ∷ 2 ∷ 1 ∷ 8 ∷ 5 ∷ 2 ∷ 4 ∷ 0 ∷ 0 ∷ 1 ∷ 1 ∷ 1 ∷ 1 ∷ 0 ∷ 2 ∷ 4 ∷ 0 ∷ 1 ∷ 4 ∷ 0 ∷ 1 ∷ 2 ∷ 2 ∷ 2 ∷ 4
    ∷ 1 ∷ 2 ∷ 2 ∷ 0 ∷ 2 ∷ 0 ∷ 0 ∷ 3 ∷ 1 ∷ 0
    ∷ 7 ∷ []

-- Its sets, counted from 0: types 0 to 3, predicates 4 and 5, roles 6 to 12, groups 13 and 14

several-limits : (diagram_in table_line table >>= λ d. accepted (limits d)) ≡ accepted (
    at_most 6 3 ∷ at_most 6 4
    ∷ at_most 7 0 ∷ at_most 7 4 ∷ at_most 7 13 ∷ at_most 0 7
    ∷ at_most 8 0 ∷ at_most 8 4 ∷ at_most 8 14
    ∷ at_most 9 3 ∷ at_most 9 4 ∷ at_most 9 13
    ∷ at_most 10 3 ∷ at_most 10 4 ∷ at_most 10 13
    ∷ record { target = 4; most = times 2 13 } ∷ record { target = 13; most = quotient 4 2 }
    ∷ record { target = 13; most = product (7 ∷ 9 ∷ 10 ∷ []) }
    ∷ record { target = 4; most = times 4 14 } ∷ record { target = 14; most = quotient 4 2 }
    ∷ record { target = 14; most = product (8 ∷ []) }
    ∷ record { target = 4; most = product (13 ∷ 14 ∷ 6 ∷ []) }
    ∷ at_most 11 1 ∷ at_most 11 5
    ∷ at_most 12 2 ∷ at_most 12 5 ∷ at_most 2 12
    ∷ record { target = 5; most = product (11 ∷ 12 ∷ []) }
    ∷ record { target = 0; most = sum (7 ∷ 8 ∷ []) }
    ∷ at_most 1 0 ∷ record { target = 1; most = sum (11 ∷ []) }
    ∷ at_most 2 1
    ∷ [])
unfolding everything table
several-limits = refl

several-rounds : (diagram_in table_line table >>= λ d. accepted (map (upper_after_rounds d) (0 ∷ 1 ∷ 2 ∷ 3 ∷ []))) ≡ accepted (
    (2 ∷ 9 ∷ 9 ∷ 3 ∷ 8 ∷ 2 ∷ 4096 ∷ 4096 ∷ 4096 ∷ 4096 ∷ 4096 ∷ 4096 ∷ 4096 ∷ 4096 ∷ 4096 ∷ [])
    ∷ (2 ∷ 2 ∷ 9 ∷ 3 ∷ 8 ∷ 2 ∷ 3 ∷ 2 ∷ 2 ∷ 3 ∷ 3 ∷ 2 ∷ 2 ∷ 4 ∷ 4 ∷ [])
    ∷ (2 ∷ 2 ∷ 2 ∷ 3 ∷ 8 ∷ 2 ∷ 3 ∷ 2 ∷ 2 ∷ 3 ∷ 3 ∷ 2 ∷ 2 ∷ 4 ∷ 2 ∷ [])
    ∷ (2 ∷ 2 ∷ 2 ∷ 3 ∷ 8 ∷ 2 ∷ 3 ∷ 2 ∷ 2 ∷ 3 ∷ 3 ∷ 2 ∷ 2 ∷ 4 ∷ 2 ∷ [])
    ∷ [])
unfolding everything table
several-rounds = refl

cells : List ℕ
cells =
    2 ∷ 10 ∷ 11 ∷ 2 ∷ 10 ∷ 11 ∷ 2 ∷ 10 ∷ 11 ∷ 3 ∷ 30 ∷ 31 ∷ 32
    ∷ 8
    ∷ 30 ∷ 10 ∷ 10 ∷ 30 ∷ 30
    ∷ 31 ∷ 11 ∷ 11 ∷ 31 ∷ 31
    ∷ 32 ∷ 10 ∷ 10 ∷ 32 ∷ 32
    ∷ 30 ∷ 11 ∷ 11 ∷ 30 ∷ 30
    ∷ 31 ∷ 10 ∷ 11 ∷ 30 ∷ 30
    ∷ 32 ∷ 11 ∷ 10 ∷ 31 ∷ 31
    ∷ 30 ∷ 10 ∷ 11 ∷ 32 ∷ 32
    ∷ 31 ∷ 11 ∷ 10 ∷ 30 ∷ 30
    ∷ 2 ∷ 10 ∷ 10 ∷ 11 ∷ 11 ∷ []

several-populated : populate_call table 59 ≡ accepted (record { rounds = 3; result = cells })
unfolding everything table cells
several-populated = refl
