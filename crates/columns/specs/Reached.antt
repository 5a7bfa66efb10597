-- A column whose cells are all there, so that reading them needs no test.
use Rattle.std.specs.Prelude.{ℕ, ◌+◌, ◌*◌, ◌≤◌, ◌<◌, List, length}

-- Every value of the column is there
pub record Reached (s : List ℕ) (start step count : ℕ) : Type 0 where
  pub apart : 0 < step
  pub narrow : step ≤ 4096
  pub reach : start + count * step < length s + step
