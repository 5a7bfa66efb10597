-- One set with just so many members (document 02, S-1), as one list of inputs with their outcomes, and the one theorem that they hold.
-- The sample's sets are 1 a, 2 b, 3 r, 4 p, 5 s, 6 q; by itself it settles at 3, 2, 6, 3, 2, 3 in four rounds.
use Rattle.std.specs.Prelude.{ℕ, ◌≡◌, refl, List, [], ◌∷◌, ◌++◌, map}
use Rattle.orm.specs.Outcome.{Outcome, refused, accepted, Sized}
use Rattle.orm.specs.Prescribe.{prescribe_call}
use Rattle.orm.proofs.Cases.All.{everything}
use Rattle.orm.proofs.Cases.Sample.{table}

record Case : Type 0 where
  of : List ℕ
  number : ℕ
  wanted : ℕ
  space : ℕ
  outcome : Outcome Sized

outcome_of : Case → Outcome Sized
outcome_of c = prescribe_call c.of c.number c.wanted c.space

-- in just as much space as that takes
gives : List ℕ → ℕ → ℕ → ℕ → ℕ → List ℕ → Case
gives t number wanted space rounds result =
    record { of = t; number = number; wanted = wanted; space = space; outcome = accepted (record { rounds = rounds; result = result }) }

refuses : List ℕ → ℕ → ℕ → ℕ → Outcome Sized → Case
refuses t number wanted space o = record { of = t; number = number; wanted = wanted; space = space; outcome = o }

-- The sample with these lines for its first type, its roles and its group
sample_of : List ℕ → List ℕ → List ℕ → List ℕ
sample_of type roles group =
    type ++ 1 ∷ 2 ∷ 1 ∷ 2 ∷ 0 ∷ 0 ∷ 1 ∷ 1 ∷ 100 ∷ 2 ∷ 1 ∷ [] ++ roles ++ group ++ 2 ∷ []

-- every combination occurs twice
twice : List ℕ
twice = 1 ∷ 2 ∷ sample_of (1 ∷ 3 ∷ 1 ∷ 9 ∷ 0 ∷ 0 ∷ []) (1 ∷ 1 ∷ 1 ∷ 2 ∷ 0 ∷ 0 ∷ []) (2 ∷ 2 ∷ [])

-- the first type has at least three members; and a range of two values alone, so that its own bounds cross
three : List ℕ
three = 1 ∷ 2 ∷ sample_of (3 ∷ 3 ∷ 1 ∷ 9 ∷ 0 ∷ 0 ∷ []) (1 ∷ 1 ∷ 1 ∷ 2 ∷ 0 ∷ 0 ∷ []) (1 ∷ 2 ∷ [])

crossing : List ℕ
crossing = 1 ∷ 2 ∷ sample_of (3 ∷ 3 ∷ 1 ∷ 2 ∷ 0 ∷ 0 ∷ []) (1 ∷ 1 ∷ 1 ∷ 2 ∷ 0 ∷ 0 ∷ []) (1 ∷ 2 ∷ [])

-- `diagram=2`, with 2 to 7 members in the first role
limited : List ℕ
limited = 2 ∷ 2 ∷ sample_of (1 ∷ 3 ∷ 1 ∷ 9 ∷ 0 ∷ 0 ∷ []) (1 ∷ 1 ∷ 1 ∷ 2 ∷ 7 ∷ 2 ∷ 0 ∷ 0 ∷ 1 ∷ 4096 ∷ []) (1 ∷ 2 ∷ [])

-- P3, which has no population: each combination occurs three times, with two values beside it
emptied : List ℕ
emptied =
    1 ∷ 2 ∷ 1 ∷ 10 ∷ 1 ∷ 10 ∷ 0 ∷ 0 ∷ 1 ∷ 2 ∷ 1 ∷ 2 ∷ 0 ∷ 0
    ∷ 1 ∷ 1 ∷ 100 ∷ 2 ∷ 1 ∷ 1 ∷ 0 ∷ 1 ∷ 2 ∷ 0 ∷ 0 ∷ 3 ∷ 3 ∷ 2 ∷ []

-- the types' cells where the first has three members, and where it has two; with two there are four rows
three_cells : List ℕ
three_cells = 3 ∷ 1 ∷ 2 ∷ 3 ∷ 2 ∷ 1 ∷ 2 ∷ []

two_by_two : List ℕ
two_by_two = 2 ∷ 1 ∷ 2 ∷ 2 ∷ 1 ∷ 2 ∷ 4 ∷ 1 ∷ 1 ∷ 2 ∷ 2 ∷ 1 ∷ 2 ∷ 2 ∷ 1 ∷ []

-- the six rows of populating
settled : List ℕ
settled = three_cells ++ 6 ∷ 1 ∷ 1 ∷ 2 ∷ 2 ∷ 3 ∷ 1 ∷ 1 ∷ 2 ∷ 2 ∷ 1 ∷ 3 ∷ 2 ∷ []

cases : List Case
cases =
    -- four rows, and one
    gives table 3 4 16 3 (three_cells ++ 4 ∷ 1 ∷ 1 ∷ 2 ∷ 2 ∷ 3 ∷ 1 ∷ 1 ∷ 2 ∷ [])
    ∷ gives table 3 1 7 3 (1 ∷ 1 ∷ 1 ∷ 1 ∷ 1 ∷ 1 ∷ 1 ∷ [])
    -- two of the first type, in the first role, in the group; one of the second type
    ∷ gives table 1 2 15 4 two_by_two
    ∷ gives table 4 2 15 3 two_by_two
    ∷ gives table 6 2 15 3 two_by_two
    ∷ gives table 2 1 13 4 (3 ∷ 1 ∷ 2 ∷ 3 ∷ 1 ∷ 1 ∷ 3 ∷ 1 ∷ 1 ∷ 2 ∷ 1 ∷ 3 ∷ 1 ∷ [])
    -- the settled size: the cells of populating; a round fewer where the bound starts where it settles
    ∷ gives table 1 3 20 4 settled
    ∷ gives table 3 6 20 3 settled
    -- above the settled size: told in the third round; above the upper bound, up to the largest size; 0: before the rounds, however short the buffer
    ∷ refuses table 3 7 0 (refused 11 3 3)
    ∷ refuses table 2 3 0 (refused 11 2 0)
    ∷ refuses table 3 4294967295 0 (refused 11 3 0)
    ∷ refuses table 3 0 100 (refused 11 3 0)
    -- every combination occurs twice: an even number of rows, and odd ones
    ∷ gives twice 3 4 15 4 two_by_two
    ∷ refuses twice 3 5 100 (refused 11 3 2)
    ∷ refuses twice 3 3 100 (refused 11 3 2)
    -- two rows leave too few for the first type, which is named; no rows, where its own bounds cross: it is the first set
    ∷ refuses three 3 2 100 (refused 11 1 2)
    ∷ refuses crossing 3 0 100 (refused 11 1 0)
    -- a role below RMIN, above RMAX, and above its type
    ∷ refuses limited 4 1 100 (refused 11 4 0)
    ∷ refuses limited 4 8 100 (refused 11 4 0)
    ∷ refuses limited 4 4 100 (refused 11 4 1)
    ∷ gives limited 4 2 15 3 two_by_two
    -- a diagram without a population
    ∷ refuses emptied 1 1 100 (refused 11 6 4)
    -- no set 0 and none past the last, whatever the size
    ∷ refuses table 0 0 100 (refused 10 0 0)
    ∷ refuses table 7 2 0 (refused 10 7 0)
    ∷ refuses table 4294967295 2 100 (refused 10 4294967295 0)
    -- a fault of form comes first, and a short buffer last
    ∷ refuses (3 ∷ []) 0 0 0 (refused 2 1 0)
    ∷ refuses table 3 4 15 (refused 8 16 0)
    ∷ []

prescribed : map outcome_of cases ≡ map (λ (c : Case). c.outcome) cases
unfolding everything table outcome_of gives refuses sample_of twice three crossing limited emptied three_cells two_by_two settled cases
prescribed = refl
