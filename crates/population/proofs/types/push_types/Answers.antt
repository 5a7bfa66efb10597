use Rattle.std.proofs.Common.{rules}
use Rattle.population.proofs.Writing.{wrote_none, wrote_more}
use Rattle.population.proofs.TypeLaws.{types_none, types_more, types_all}
use Rattle.population.proofs.types.push_types.Goals as goal

pub loop-a-init : goal.loop-a-init
loop-a-init c = search (rules, wrote_none, types_none)

pub loop-a-preserved : goal.loop-a-preserved
loop-a-preserved c = search (rules, wrote_more, types_more)

pub returns : goal.returns
returns c = search (rules, types_all)
