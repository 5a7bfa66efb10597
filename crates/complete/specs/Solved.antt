-- Sizes of a diagram's sets that respect its bounds and limits.
use Rattle.std.specs.Prelude.{ℕ}
use mathlib.Core.List.{List}
use Rattle.fixpoint.specs.Notions.{◌≼◌, Satisfies}
use Rattle.orm.specs.Diagram.{Diagram}
use Rattle.orm.specs.Sets.{limits, lower, upper}
use Rattle.orm.specs.WellFormed.{WellFormed}

-- The sizes `c` are between the bounds of a well-formed diagram and satisfy its limits
pub record Solved (d : Diagram) (c : List ℕ) : Type 0 where
  pub form : WellFormed d
  pub above : lower d ≼ c
  pub below : c ≼ upper d
  pub satisfied : Satisfies (limits d) c
