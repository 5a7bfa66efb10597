-- Bounds that a diagram's own allow.
use Rattle.std.specs.Prelude.{ℕ, List}
use Rattle.fixpoint.specs.Notions.{◌≼◌}
use Rattle.orm.specs.Diagram.{Diagram}
use Rattle.orm.specs.Sets.{lower, upper}

-- Bounds inside the diagram's own
pub record Inside (d : Diagram) (low high : List ℕ) : Type 0 where
  pub lower_≼ : lower d ≼ low
  pub ≼_upper : high ≼ upper d
