use Rattle.std.proofs.Common.{rules, arith}
use Rattle.population.proofs.TypeLaws.{types_none, types_more, types_all}
use Rattle.population.proofs.CountLaws.{counted_none, counted_more, type_length_at}
use Rattle.population.proofs.counts.count_type_cells.Goals as goal

pub loop-a-init : goal.loop-a-init
loop-a-init c = record { value = search (rules, counted_none, types_none); small = omega arith }

pub loop-a-preserved : goal.loop-a-preserved
loop-a-preserved c = record { value = search (rules, counted_more, types_more, type_length_at); small = omega (arith, c.size.ensures.upper_bound, c.loop-a.invariant.small) }

pub returns-clause-value : goal.returns-clause-value
returns-clause-value c = search (rules, types_all)
