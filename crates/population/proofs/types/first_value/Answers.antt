-- `population::types::first_value` meets its contract. The types of the diagram stand behind the first two numbers.
use Rattle.population.proofs.TypeLaws.{first-is, first_under}
use Rattle.std.proofs.Common.{rules}
use Rattle.population.proofs.types.first_value.Goals as goal

pub returns : goal.returns
returns c = search (rules, first-is, first_under)
