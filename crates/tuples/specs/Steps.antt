-- A pairing prepared for its rows: a step for each set, and the row that they give.
use Rattle.std.specs.Prelude.{ℕ, zero, suc, ◌+◌, ◌*◌, ◌/◌, ◌%◌, min, ◌≤◌, List, [], ◌∷◌, get_or, drop}
use Rattle.pairing.specs.Pairing.{lcm}
use Rattle.tuples.specs.declared.Step.{Step}

-- The first `k` numbers of a list, 0 for each that is not there
unfoldable pub padded : ℕ → List ℕ → List ℕ
padded zero s = []
padded (suc k) s = get_or s 0 0 ∷ padded k (drop 1 s)

-- For each further set: how many tuples it is paired with, the least common multiple of that count and its size, and its size
unfoldable pub steps_from : ℕ → ℕ → List ℕ → List Step
steps_from want n [] = []
steps_from want n (t ∷ ts) = record { tuples = n; common = lcm n t; size = t } ∷ steps_from want (min want (n * t)) ts

-- The first set 'is taken as it is': nothing is read of its step
unfoldable pub steps : ℕ → List ℕ → List Step
steps want [] = []
steps want (s ∷ ss) = record { tuples = 0; common = 0; size = 0 } ∷ steps_from want s ss

-- Of row `i` at a step: its index in the step's set, and its row among the tuples before
abbrev pub entry_of : Step → ℕ → ℕ
entry_of s i = (i + i / s.common) % s.size

abbrev pub before_of : Step → ℕ → ℕ
before_of s i = i % s.tuples

-- The row before all of these steps, and the indices at them, of row `i` behind them
unfoldable pub first_row : List Step → ℕ → ℕ
first_row [] i = i
first_row (s ∷ ss) i = before_of s (first_row ss i)

unfoldable pub entries : List Step → ℕ → List ℕ
entries [] i = []
entries (s ∷ ss) i = entry_of s (first_row ss i) ∷ entries ss i

-- Row `i` of a pairing with these steps
unfoldable pub tuple_of : List Step → ℕ → List ℕ
tuple_of [] i = []
tuple_of (s ∷ ss) i = first_row ss i ∷ entries ss i

-- No number is above 4096
pub record Small (xs : List ℕ) : Type 0 where
  pub at : (k : ℕ) → get_or xs k 0 ≤ 4096
