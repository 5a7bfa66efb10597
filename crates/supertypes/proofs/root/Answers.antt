use Rattle.supertypes.proofs.Climbs.{root-start, root-here, root-next, climb-end}
use Rattle.std.proofs.Common.{rules}
use Rattle.supertypes.proofs.root.Goals as goal

pub loop-init : goal.loop-init
loop-init c = search (rules, root-start)

pub returns-then-above-eq0 : goal.returns-then-above-eq0
returns-then-above-eq0 c = search (rules, root-here)

pub loop-preserved : goal.loop-preserved
loop-preserved c = search (rules, root-next)

pub returns : goal.returns
returns c = search (rules, climb-end)
