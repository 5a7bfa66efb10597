use Rattle.faults.proofs.Noting.{entries_none, entries-here, entries-more}
use Rattle.std.proofs.Common.{rules}
use Rattle.faults.proofs.Faults.first.Goals as goal

pub returns-then-number-ne0 : goal.returns-then-number-ne0
returns-then-number-ne0 c = search (rules, entries-here)

pub loop-k-preserved : goal.loop-k-preserved
loop-k-preserved c = search (rules, entries-more)

pub returns : goal.returns
returns c = search (rules, entries_none)
