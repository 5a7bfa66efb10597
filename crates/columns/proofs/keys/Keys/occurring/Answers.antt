use Rattle.columns.proofs.Walked.{occurring-start, occurring-none, occurring-not, occurring-more}
use Rattle.std.proofs.Common.{rules}
use Rattle.columns.proofs.keys.Keys.occurring.Goals as goal

pub loop-x-init : goal.loop-x-init
loop-x-init c = search (rules, occurring-start)

pub returns-then-not-in_range : goal.returns-then-not-in_range
returns-then-not-in_range c = search (rules, occurring-not)

pub loop-x-preserved : goal.loop-x-preserved
loop-x-preserved c = search (rules, occurring-more)

pub returns : goal.returns
returns c = search (rules, occurring-none)
