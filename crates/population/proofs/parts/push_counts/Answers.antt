use Rattle.std.proofs.Common.{rules}
use Rattle.population.proofs.Writing.{wrote_none, wrote_more}
use Rattle.population.proofs.PartLaws.{group_counts_none, group_counts_more, counts_is}
use Rattle.population.proofs.parts.push_counts.Goals as goal

pub loop-i-init : goal.loop-i-init
loop-i-init c = search (rules, wrote_none, group_counts_none)

pub loop-i-preserved : goal.loop-i-preserved
loop-i-preserved c = search (rules, wrote_more, group_counts_more)

pub returns : goal.returns
returns c = wrote_more c.loop-i.invariant c.fill.ensures (counts_is c.args.t.now c.args.x (search rules) (search rules))
