use Rattle.std.proofs.Common.{rules}
use Rattle.population.proofs.Writing.{wrote_none, wrote_more}
use Rattle.population.proofs.PartLaws.{grouped_none, grouped_more, order_is}
use Rattle.population.proofs.parts.push_order.Goals as goal

pub loop-i-init : goal.loop-i-init
loop-i-init c = search (rules, wrote_none, grouped_none)

pub loop-i-preserved : goal.loop-i-preserved
loop-i-preserved c = search (rules, wrote_more, grouped_more)

pub returns : goal.returns
returns c = wrote_more c.loop-i.invariant c.push_in_group-2.ensures (order_is c.args.t.now c.args.x (search rules))
