use Rattle.lookup.proofs.Walks.{within-not, within_more, within_none}
use Rattle.std.proofs.Common.{rules}
use Rattle.lookup.proofs.within.Goals as goal

pub returns-then-is_none : goal.returns-then-is_none
returns-then-is_none c = search (rules, within-not)

pub loop-i-preserved : goal.loop-i-preserved
loop-i-preserved c = search (rules, within_more)

pub returns : goal.returns
returns c = search (rules, within_none)
