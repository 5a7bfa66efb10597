-- Worked examples: the bounds and limits of the sample's sets, the upper bounds after each round, and a subtype's limits.
use Rattle.std.specs.Prelude.{ℕ, ◌≡◌, refl, List, [], ◌∷◌, map}
use Rattle.fixpoint.specs.Limits.{Limit, product, sum, times, quotient, fixpoint}
use Rattle.orm.specs.Diagram.{Diagram}
use Rattle.orm.specs.Sets.{lower, upper, at_most, limits, limits_of_type, upper_after_rounds, most_rounds, verdict}
use Rattle.orm.proofs.Cases.All.{everything}

-- The sets of the sample, counted from 0: a, b its types, r its predicate, p and s the roles of a and b, q the group
sample : Diagram
sample = record {
  kind = 1;
  types =
      record { min = 1; max = 3; first = 1; last = 9; super = 0; indep = 0 }
      ∷ record { min = 1; max = 2; first = 1; last = 2; super = 0; indep = 0 }
      ∷ [];
  preds = record {
    min = 1;
    max = 100;
    roles =
        record { type = 1; mand = 1; group = 1; rmin = 1; rmax = 4096 } ∷ record { type = 2; mand = 0; group = 0; rmin = 1; rmax = 4096 } ∷ [];
    groups = record { fmin = 1; fmax = 2 } ∷ [];
  } ∷ [];
}

sample-bounds : lower sample ∷ upper sample ∷ [] ≡ (1 ∷ 1 ∷ 1 ∷ 1 ∷ 1 ∷ 1 ∷ []) ∷ (3 ∷ 2 ∷ 100 ∷ 4096 ∷ 4096 ∷ 4096 ∷ []) ∷ []
unfolding everything sample
sample-bounds = refl

sample-limits : limits sample ≡
    -- p at most a, r and q; p is mandatory
    at_most 3 0 ∷ at_most 3 2 ∷ at_most 3 5 ∷ at_most 0 3
    -- s at most b and r
    ∷ at_most 4 1 ∷ at_most 4 2
    -- r at most FMAX times q; q at most r / FMIN, and at most p
    ∷ record { target = 2; most = times 2 5 } ∷ record { target = 5; most = quotient 2 1 } ∷ record { target = 5; most = product (3 ∷ []) }
    -- r at most q times s
    ∷ record { target = 2; most = product (5 ∷ 4 ∷ []) }
    -- neither type is independent: a at most p, b at most s
    ∷ record { target = 0; most = sum (3 ∷ []) } ∷ record { target = 1; most = sum (4 ∷ []) } ∷ []
unfolding everything sample
sample-limits = refl

sample-rounds : map (upper_after_rounds sample) (0 ∷ 1 ∷ 2 ∷ 3 ∷ 4 ∷ 5 ∷ []) ≡
    (3 ∷ 2 ∷ 100 ∷ 4096 ∷ 4096 ∷ 4096 ∷ [])
    ∷ (3 ∷ 2 ∷ 100 ∷ 3 ∷ 2 ∷ 100 ∷ [])
    ∷ (3 ∷ 2 ∷ 100 ∷ 3 ∷ 2 ∷ 3 ∷ [])
    ∷ (3 ∷ 2 ∷ 6 ∷ 3 ∷ 2 ∷ 3 ∷ [])
    ∷ (3 ∷ 2 ∷ 6 ∷ 3 ∷ 2 ∷ 3 ∷ [])
    ∷ (3 ∷ 2 ∷ 6 ∷ 3 ∷ 2 ∷ 3 ∷ []) ∷ []
unfolding everything sample
sample-rounds = refl

sample-verdict : verdict sample ≡ fixpoint 4 (3 ∷ 2 ∷ 6 ∷ 3 ∷ 2 ∷ 3 ∷ [])
unfolding everything sample
sample-verdict = refl

-- 2 + 1 + 99 + 3 * 4095, and 1
sample-most : most_rounds sample ≡ 12388
unfolding everything sample
sample-most = refl

-- The third type, which plays no role: at most its supertype, and free of the sum limit where it has one; a root that is not independent
-- comes to 0
third : ℕ → ℕ → List Limit
third super indep = limits_of_type sample 2 (record { min = 1; max = 9; first = 0; last = 0; super = super; indep = indep })

third-limits :
    third 2 1 ∷ third 2 0 ∷ third 0 1 ∷ third 0 0 ∷ []
    ≡ (at_most 2 1 ∷ []) ∷ (at_most 2 1 ∷ []) ∷ [] ∷ (record { target = 2; most = sum [] } ∷ []) ∷ []
unfolding everything sample third
third-limits = refl
