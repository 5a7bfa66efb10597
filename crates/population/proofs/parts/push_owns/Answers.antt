use Rattle.std.proofs.Common.{rules}
use Rattle.population.proofs.Writing.{wrote_none, wrote_more}
use Rattle.population.proofs.PartLaws.{sizes_up_none, sizes_up_more, owns_is}
use Rattle.population.proofs.parts.push_owns.Goals as goal

pub loop-i-init : goal.loop-i-init
loop-i-init c = search (rules, wrote_none, sizes_up_none)

pub loop-i-preserved : goal.loop-i-preserved
loop-i-preserved c = search (rules, wrote_more, sizes_up_more)

pub returns : goal.returns
returns c = wrote_more c.loop-i.invariant c.push_alone.ensures (owns_is c.args.t.now c.args.x (search rules) c.args.c.now (search rules) (search rules))
