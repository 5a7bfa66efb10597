-- What is made of a solution of the limits: a population that meets the constraints and has just these sizes.
use Rattle.std.specs.Prelude.{ℕ, ◌≡◌, List}
use Rattle.orm.specs.Constraints.{sizes}
use Rattle.orm.specs.Diagram.{Diagram}
use Rattle.orm.specs.Meaning.{ValidPopulation}
use Rattle.orm.specs.Populate.{population}
use Rattle.orm.specs.Population.{cells}

-- What the population made from the sizes `c` is
pub record PopulationLaws (d : Diagram) (c : List ℕ) : Type 0 where
  pub valid : ValidPopulation d (cells (population d c))
  pub exact : sizes d valid.population ≡ c
