-- What the sizes of a population of a diagram are to the rounds: that they are sound.
use Rattle.std.specs.Prelude.{ℕ, ◌≡◌, List}
use Rattle.fixpoint.specs.Limits.{unsatisfiable, fixpoint}
use Rattle.fixpoint.specs.Notions.{◌≼◌, Solution}
use Rattle.orm.specs.Diagram.{Diagram}
use Rattle.orm.specs.Sets.{lower, upper, limits, upper_after_rounds, verdict_from}
use Rattle.orm.specs.Inside.{Inside}

-- What the sizes `x` of a population are to the rounds
pub record SizesLaws (d : Diagram) (x : List ℕ) : Type 0 where
  -- They are between the lower and the starting upper bounds, and satisfy every limit
  pub above : lower d ≼ x
  pub solution : Solution (limits d) (upper d) x
  -- No round brings an upper bound below them
  pub rounds : (n : ℕ) → x ≼ upper_after_rounds d n
  -- Rounds from any bounds that they are between do not end unsatisfiable, and where they end at a fixpoint it is above them
  pub satisfiable : {low high : List ℕ} → Inside d low high → low ≼ x → x ≼ high → {s n : ℕ} → ¬ (verdict_from d low high ≡ unsatisfiable s n)
  pub under_fixpoint : {low high : List ℕ} → Inside d low high → x ≼ high → {n : ℕ} {c : List ℕ} → verdict_from d low high ≡ fixpoint n c → x ≼ c
