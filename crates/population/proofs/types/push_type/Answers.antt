use Rattle.std.proofs.Common.{rules}
use Rattle.population.proofs.Writing.{wrote_more}
use Rattle.population.proofs.TypeLaws.{type-is}
use Rattle.population.proofs.types.push_type.Goals as goal

pub returns : goal.returns
returns c = search (rules, wrote_more, type-is)
