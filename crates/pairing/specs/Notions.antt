-- What the laws of the pairing speak of: walks round the numbers below a size, even shares, and sizes that so many tuples can be made of.
use Rattle.std.specs.Prelude.{ℕ, ◌+◌, ◌*◌, ◌-◌, ◌/◌, ◌%◌, ◌≤◌, ◌<◌, ◌≡◌, List, get_or, eqb}
use Rattle.counting.specs.Totals.{count_below, product_over}
use Rattle.counting.specs.Terms.{Each}
use Rattle.pairing.specs.Pairing.{Tuples}

-- How many of the indices below `n` the function takes to `y`
abbrev pub hits : ℕ → (ℕ → ℕ) → ℕ → ℕ
hits n f y = count_below (λ i. eqb y (f i)) n

-- `c` is one of `t` equal shares of `n`, rounded down or up
pub record EvenShare (n t c : ℕ) : Type 0 where
  pub at_least : n / t ≤ c
  pub at_most : c ≤ (n + t - 1) / t

-- Step by step round the numbers below `t`, with a new start at each multiple of `t`
pub record Walk (t : ℕ) (f : ℕ → ℕ) : Type 0 where
  pub start : ℕ → ℕ
  pub step : (q i : ℕ) → i < t → f (q * t + i) ≡ (i + start q) % t

-- The product of the numbers in a list
abbrev pub product : List ℕ → ℕ
product ts = product_over (λ t. t) ts

-- No set is empty, none is larger than the count wanted, and so many different tuples can be made
pub record Fits (want : ℕ) (sizes : List ℕ) : Type 0 where
  pub some : 0 < want
  pub positive : Each (0 <◌) sizes
  pub small : Each (◌≤ want) sizes
  pub enough : want ≤ product sizes

-- The member of set `k` in tuple `i`
abbrev pub entry : Tuples → ℕ → ℕ → ℕ
entry r k i = get_or (r.row i) k 0
