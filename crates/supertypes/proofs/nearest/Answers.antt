use Rattle.supertypes.proofs.Climbs.{nearest-start, nearest-here, nearest-next, climb-end}
use Rattle.std.proofs.Common.{rules}
use Rattle.supertypes.proofs.nearest.Goals as goal

pub loop-init : goal.loop-init
loop-init c = search (rules, nearest-start)

pub returns-then-has_range_at : goal.returns-then-has_range_at
returns-then-has_range_at c = search (rules, nearest-here)

pub loop-preserved : goal.loop-preserved
loop-preserved c = search (rules, nearest-next)

pub returns : goal.returns
returns c = search (rules, climb-end)
