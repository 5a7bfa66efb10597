use Rattle.order.specs.Numbers.{numbers-at}
use Rattle.runs.proofs.Walked.{run-start, run_on, run_ends, run-last}
use Rattle.std.proofs.Common.{rules}
use Rattle.runs.proofs.run_end.Goals as goal

pub loop-j-init : goal.loop-j-init
loop-j-init c = search (rules, run-start)

pub same-requires : goal.same-requires
same-requires c = search (rules, numbers-at)

pub returns-then-not-same : goal.returns-then-not-same
returns-then-not-same c = search (rules, run_ends)

pub loop-j-preserved : goal.loop-j-preserved
loop-j-preserved c = search (rules, run_on)

pub returns : goal.returns
returns c = search (rules, run-last)
