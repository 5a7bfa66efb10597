-- Several pairings side by side: the steps of all of them one after another, and one row of each.
use Rattle.std.specs.Prelude.{ℕ, ◌*◌, ◌<◌, List, [], ◌∷◌, ◌++◌, get_or, take, drop}
use Rattle.tuples.specs.Steps.{padded, steps, tuple_of}
use Rattle.tuples.specs.declared.Step.{Step}

-- The steps of a pairing for each count wanted; how many sets it has stands in `ks`, and their sizes in `s`
unfoldable pub steps_of_each : List ℕ → List ℕ → List ℕ → List Step
steps_of_each [] ks s = []
steps_of_each (w ∷ ws) ks s = steps w (padded (get_or ks 0 0) s) ++ steps_of_each ws (drop 1 ks) (drop (get_or ks 0 0) s)

-- One row of each; how many sets a pairing has stands in `ks`
unfoldable pub tuples_in : List Step → List ℕ → List ℕ → List ℕ
tuples_in s ks [] = []
tuples_in s [] (i ∷ is) = []
tuples_in s (k ∷ ks) (i ∷ is) = tuple_of (take k s) i ++ tuples_in (drop k s) ks is

-- Numbers of rows, of which twice each is a number of 32 bits
pub record Indices (is : List ℕ) : Type 0 where
  pub at : (k : ℕ) → 2 * get_or is k 0 < 4294967296
