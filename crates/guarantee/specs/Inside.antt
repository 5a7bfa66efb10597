-- Populations whose sizes are between two lists of bounds: that there is none, or which sizes are the greatest.
use Rattle.std.specs.Prelude.{ℕ, List}
use Rattle.fixpoint.specs.Notions.{◌≼◌}
use Rattle.orm.specs.Diagram.{Diagram}
use Rattle.orm.specs.Constraints.{sizes}
use Rattle.orm.specs.Meaning.{ValidPopulation}
use Rattle.complete.specs.Laws.{PopulationLaws}

-- Sizes between the bounds
pub record Fits (low high x : List ℕ) : Type 0 where
  pub above : low ≼ x
  pub under : x ≼ high

abbrev pub NoneFits : Diagram → List ℕ → List ℕ → Type 0
NoneFits d low high = (s : List ℕ) (o : ValidPopulation d s) → ¬ Fits low high (sizes d o.population)

-- What the population made from the sizes `c` is among those that fit
pub record GreatestPopulation (d : Diagram) (low high c : List ℕ) : Type 0 where
  pub made : PopulationLaws d c
  pub fits : Fits low high c
  pub greatest : (s : List ℕ) (o : ValidPopulation d s) → Fits low high (sizes d o.population) → sizes d o.population ≼ c
