-- One limit at a time (document 02, S-13), as one list of inputs with their outcomes, and the one theorem that they hold.
-- The sample's sets are a, b, r, p, s, q; its limits, by number: 0 p at most a, 1 p at most r, 2 p at most q, 3 a at most p (mandatory), 4 s at most b,
-- 5 s at most r, 6 r at most 2 q, 7 q at most r, 8 q at most p, 9 r at most q times s, 10 a at most p (the sum), 11 b at most s.
use Rattle.std.specs.Prelude.{ℕ, ◌≡◌, refl, Bool, true, false, List, [], ◌∷◌, map}
use Rattle.orm.specs.Outcome.{Outcome, refused, accepted, ◌>>=◌}
use Rattle.orm.specs.SingleLimits.{Stepped, Found, start_call, lower_call, survey_call, bounds_of}
use Rattle.orm.proofs.Cases.All.{everything}
use Rattle.orm.proofs.Cases.Sample.{table}

data Input : Type 0 where
  starting : List ℕ → ℕ → Input
  lowering : List ℕ → ℕ → List ℕ → Input
  surveying : List ℕ → List ℕ → Input
  -- these limits in turn, from the starting upper bounds
  sequence : List ℕ → List ℕ → Input

data Result : Type 0 where
  bounds : Outcome (List ℕ) → Result
  stepped : Outcome Stepped → Result
  found : Outcome Found → Result

in_turn : List ℕ → List ℕ → List ℕ → Outcome (List ℕ)
in_turn t [] c = accepted c
in_turn t (k ∷ ks) c = bounds_of (lower_call t k c) >>= in_turn t ks

result_of : Input → Result
result_of (starting t space) = bounds (start_call t space)
result_of (lowering t k buffer) = stepped (lower_call t k buffer)
result_of (surveying t buffer) = found (survey_call t buffer)
result_of (sequence t ks) = bounds (start_call t 208 >>= in_turn t ks)

record Case : Type 0 where
  input : Input
  result : Result

-- `lowers`, and the upper bounds afterwards
steps : ℕ → List ℕ → Bool → List ℕ → Case
steps k c lowers after = record { input = lowering table k c; result = stepped (accepted (record { lowers = lowers; result = after })) }

surveys : List ℕ → Bool → Case
surveys c lowers = record { input = surveying table c; result = found (accepted (record { lowers = lowers; count = 12 })) }

ends : List ℕ → List ℕ → List ℕ → Case
ends t ks after = record { input = sequence t ks; result = bounds (accepted after) }

starts : ℕ → Outcome (List ℕ) → Case
starts space o = record { input = starting table space; result = bounds o }

refuses : List ℕ → ℕ → List ℕ → ℕ → ℕ → Case
refuses t k buffer number place = record { input = lowering t k buffer; result = stepped (refused number place 0) }

-- P3, which is refused with 7: each row's combination occurs three times, with two values beside it
emptied : List ℕ
emptied =
    1 ∷ 2 ∷ 1 ∷ 10 ∷ 1 ∷ 10 ∷ 0 ∷ 0 ∷ 1 ∷ 2 ∷ 1 ∷ 2 ∷ 0 ∷ 0
    ∷ 1 ∷ 1 ∷ 100 ∷ 2 ∷ 1 ∷ 1 ∷ 0 ∷ 1 ∷ 2 ∷ 0 ∷ 0 ∷ 3 ∷ 3 ∷ 2 ∷ []

start : List ℕ
start = 3 ∷ 2 ∷ 100 ∷ 4096 ∷ 4096 ∷ 4096 ∷ []

settled : List ℕ
settled = 3 ∷ 2 ∷ 6 ∷ 3 ∷ 2 ∷ 3 ∷ []

cases : List Case
cases =
    starts 6 (accepted start)
    ∷ starts 5 (refused 8 6 0)
    -- p to the value of a; a stays below p; what stands behind the bounds is not among them
    ∷ steps 0 start true (3 ∷ 2 ∷ 100 ∷ 3 ∷ 4096 ∷ 4096 ∷ [])
    ∷ steps 3 start false start
    ∷ steps 7 (3 ∷ 2 ∷ 100 ∷ 3 ∷ 4096 ∷ 4096 ∷ 9 ∷ []) true (3 ∷ 2 ∷ 100 ∷ 3 ∷ 4096 ∷ 100 ∷ [])
    ∷ steps 6 (3 ∷ 2 ∷ 100 ∷ 3 ∷ 2 ∷ 3 ∷ []) true settled
    ∷ steps 9 (3 ∷ 2 ∷ 100 ∷ 3 ∷ 2 ∷ 3 ∷ []) true settled
    ∷ steps 9 settled false settled
    -- a bound that is below its limit is not raised to it
    ∷ steps 0 (3 ∷ 2 ∷ 6 ∷ 2 ∷ 2 ∷ 3 ∷ []) false (3 ∷ 2 ∷ 6 ∷ 2 ∷ 2 ∷ 3 ∷ [])
    -- bounds above the starting ones, and values past 32 bits
    ∷ steps 0 (9000 ∷ 2 ∷ 100 ∷ 4294967295 ∷ 2 ∷ 3 ∷ []) true (9000 ∷ 2 ∷ 100 ∷ 9000 ∷ 2 ∷ 3 ∷ [])
    ∷ steps 6 (3 ∷ 2 ∷ 4294967295 ∷ 3 ∷ 2 ∷ 2147483648 ∷ []) false (3 ∷ 2 ∷ 4294967295 ∷ 3 ∷ 2 ∷ 2147483648 ∷ [])
    ∷ steps 9 (3 ∷ 2 ∷ 4294967295 ∷ 3 ∷ 65536 ∷ 65536 ∷ []) false (3 ∷ 2 ∷ 4294967295 ∷ 3 ∷ 65536 ∷ 65536 ∷ [])
    -- 10 for a number past the last, before 8; faults of form before both
    ∷ steps 11 start false start
    ∷ refuses table 12 start 10 12
    ∷ refuses table 4294967295 [] 10 4294967295
    ∷ refuses table 11 (3 ∷ 2 ∷ 100 ∷ 4096 ∷ 4096 ∷ []) 8 6
    ∷ refuses [] 12 [] 1 1
    ∷ surveys start true
    ∷ surveys settled false
    ∷ surveys (3 ∷ 2 ∷ 6 ∷ 3 ∷ 2 ∷ 4 ∷ []) true
    ∷ surveys (0 ∷ 0 ∷ 0 ∷ 0 ∷ 0 ∷ 0 ∷ []) false
    ∷ record { input = surveying table (3 ∷ []); result = found (refused 8 6 0) }
    -- two sequences of limits that each lower a bound, and one with idle limits
    ∷ ends table (0 ∷ 4 ∷ 8 ∷ 6 ∷ []) settled
    ∷ ends table (7 ∷ 1 ∷ 0 ∷ 8 ∷ 5 ∷ 4 ∷ 9 ∷ []) settled
    ∷ ends table (11 ∷ 10 ∷ 9 ∷ 8 ∷ 7 ∷ 6 ∷ 5 ∷ 4 ∷ 3 ∷ 2 ∷ 1 ∷ 0 ∷ 8 ∷ 9 ∷ []) settled
    -- where every sequence for P3 ends
    ∷ ends emptied (0 ∷ 3 ∷ 7 ∷ 8 ∷ 6 ∷ 8 ∷ 6 ∷ 8 ∷ 6 ∷ 8 ∷ 6 ∷ 8 ∷ 6 ∷ 8 ∷ 1 ∷ 4 ∷ 9 ∷ 10 ∷ []) (0 ∷ 0 ∷ 0 ∷ 0 ∷ 0 ∷ 0 ∷ [])
    ∷ []

cases_hold : map (λ (c : Case). result_of c.input) cases ≡ map (λ (c : Case). c.result) cases
unfolding everything table in_turn result_of steps surveys ends starts refuses emptied start settled cases
cases_hold = refl
