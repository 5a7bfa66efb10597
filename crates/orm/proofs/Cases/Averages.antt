-- The average use of a group (document 02, S-14), as one list of inputs with their outcomes, and the one theorem that they hold.
use Rattle.std.specs.Prelude.{ℕ, ◌≡◌, refl, List, [], ◌∷◌, ◌++◌, map}
use Rattle.std.specs.Float.{binary64}
use Rattle.std.specs.Float.Ieee.{div, of_int, of_bits}
use Rattle.orm.specs.Outcome.{Outcome, refused, accepted}
use Rattle.orm.specs.Average.{Average, whole, fraction, average_call}
use Rattle.orm.proofs.Cases.All.{everything}
use Rattle.orm.proofs.Cases.Sample.{table}

record Case : Type 0 where
  of : List ℕ
  number : ℕ
  outcome : Outcome Average

outcome_of : Case → Outcome Average
outcome_of c = average_call c.of c.number

wholly : List ℕ → ℕ → ℕ → Case
wholly t number n = record { of = t; number = number; outcome = accepted (whole n) }

-- by the 64 bits of the float
nearly : List ℕ → ℕ → ℕ → Case
nearly t number bits = record { of = t; number = number; outcome = accepted (fraction (of_bits binary64 bits)) }

refuses : List ℕ → ℕ → Outcome Average → Case
refuses t number o = record { of = t; number = number; outcome = o }

-- Two types of at most so many members, and a predicate of at most so many rows with a group of its first role. The sets are 1 a, 2 b, 3 r, 4 p, 5 s, 6 q
among : ℕ → ℕ → ℕ → List ℕ → List ℕ
among a b rows group =
    1 ∷ 2 ∷ 1 ∷ a ∷ 1 ∷ 9999 ∷ 0 ∷ 0 ∷ 1 ∷ b ∷ 1 ∷ 9999 ∷ 0 ∷ 0
    ∷ 1 ∷ 1 ∷ rows ∷ 2 ∷ 1 ∷ 1 ∷ 1 ∷ 1 ∷ 2 ∷ 0 ∷ 0 ∷ group ++ 2 ∷ []

-- 3 and 2 members; a predicate of 6 rows with two groups, and one of 5 with one. The groups' sets are 9, 10 and 11
several : List ℕ
several =
    1 ∷ 2 ∷ 1 ∷ 3 ∷ 1 ∷ 9 ∷ 0 ∷ 0 ∷ 1 ∷ 2 ∷ 1 ∷ 9 ∷ 0 ∷ 0
    ∷ 2 ∷ 1 ∷ 100 ∷ 2 ∷ 2 ∷ 1 ∷ 0 ∷ 1 ∷ 2 ∷ 0 ∷ 2 ∷ 1 ∷ 2 ∷ 1 ∷ 3
    ∷ 1 ∷ 5 ∷ 2 ∷ 1 ∷ 1 ∷ 0 ∷ 1 ∷ 2 ∷ 0 ∷ 0 ∷ 1 ∷ 2 ∷ 4 ∷ []

-- `diagram=2`: the sample with at most so many rows, and the roles' limits
limited : ℕ → List ℕ
limited rows =
    2 ∷ 2 ∷ 1 ∷ 3 ∷ 1 ∷ 9 ∷ 0 ∷ 0 ∷ 1 ∷ 2 ∷ 1 ∷ 2 ∷ 0 ∷ 0
    ∷ 1 ∷ 1 ∷ rows ∷ 2 ∷ 1 ∷ 1 ∷ 1 ∷ 1 ∷ 2 ∷ 7 ∷ 2 ∷ 0 ∷ 0 ∷ 1 ∷ 4096 ∷ 1 ∷ 2 ∷ 2 ∷ []

-- P9, emptied before the rounds; P3, emptied by them
crossing : List ℕ
crossing =
    1 ∷ 2 ∷ 3 ∷ 5 ∷ 1 ∷ 2 ∷ 0 ∷ 1 ∷ 1 ∷ 2 ∷ 1 ∷ 2 ∷ 0 ∷ 0
    ∷ 1 ∷ 1 ∷ 100 ∷ 2 ∷ 1 ∷ 1 ∷ 1 ∷ 1 ∷ 2 ∷ 0 ∷ 0 ∷ 1 ∷ 2 ∷ 2 ∷ []

emptied : List ℕ
emptied =
    1 ∷ 2 ∷ 1 ∷ 10 ∷ 1 ∷ 10 ∷ 0 ∷ 0 ∷ 1 ∷ 2 ∷ 1 ∷ 2 ∷ 0 ∷ 0
    ∷ 1 ∷ 1 ∷ 100 ∷ 2 ∷ 1 ∷ 1 ∷ 0 ∷ 1 ∷ 2 ∷ 0 ∷ 0 ∷ 3 ∷ 3 ∷ 2 ∷ []

cases : List Case
cases =
    -- 6 over 3, 7 over 2, 10 over 3
    wholly table 6 2
    ∷ nearly (among 2 5 7 (1 ∷ 4 ∷ [])) 6 0x400c_0000_0000_0000
    ∷ nearly (among 3 4 10 (1 ∷ 4 ∷ [])) 6 0x400a_aaaa_aaaa_aaab
    -- as many rows as combinations; 4096 over 3, and over 4095
    ∷ wholly (among 3 4 10 (1 ∷ 1 ∷ [])) 6 1
    ∷ nearly (among 3 4096 4096 (1 ∷ 4096 ∷ [])) 6 0x4095_5555_5555_5555
    ∷ nearly (among 4095 2 4096 (1 ∷ 2 ∷ [])) 6 0x3ff0_0100_1001_0010
    ∷ wholly (among 4 4096 4096 (1 ∷ 4096 ∷ [])) 6 1024
    -- each group with its own predicate: 6 over 3, 6 over 2, 5 over 3
    ∷ wholly several 9 2
    ∷ wholly several 10 3
    ∷ nearly several 11 0x3ffa_aaaa_aaaa_aaab
    ∷ refuses several 8 (refused 10 8 0)
    ∷ refuses several 12 (refused 10 12 0)
    -- `diagram=2`: 6 over 3, 5 over 3
    ∷ wholly (limited 100) 6 2
    ∷ nearly (limited 5) 6 0x3ffa_aaaa_aaaa_aaab
    -- the number of a type, of the predicate, of a role, one past the last, 0, and the largest
    ∷ refuses table 1 (refused 10 1 0)
    ∷ refuses table 3 (refused 10 3 0)
    ∷ refuses table 5 (refused 10 5 0)
    ∷ refuses table 7 (refused 10 7 0)
    ∷ refuses table 0 (refused 10 0 0)
    ∷ refuses table 4294967295 (refused 10 4294967295 0)
    -- a diagram that is emptied; 10 comes first, and a fault of form before it
    ∷ refuses crossing 6 (refused 7 1 0)
    ∷ refuses emptied 6 (refused 7 6 12)
    ∷ refuses emptied 5 (refused 10 5 0)
    ∷ refuses (3 ∷ []) 0 (refused 2 1 0)
    ∷ refuses [] 6 (refused 1 1 0)
    ∷ []

averages : map outcome_of cases ≡ map (λ (c : Case). c.outcome) cases
unfolding everything table div of_int of_bits outcome_of wholly nearly refuses among several limited crossing emptied cases
averages = refl
