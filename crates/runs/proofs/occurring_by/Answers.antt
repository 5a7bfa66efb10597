use Rattle.runs.proofs.Walked.{ready_part, ready_numbers, left-start, left_end, left-broken, left-more}
use Rattle.std.proofs.Common.{rules}
use Rattle.runs.proofs.occurring_by.Goals as goal

pub slice_bounds-numbers-end : goal.slice_bounds-numbers-end
slice_bounds-numbers-end c = search (rules, ready_part)

pub loop-i-init : goal.loop-i-init
loop-i-init c = search (rules, left-start)

pub run_end-end-requires : goal.run_end-end-requires
run_end-end-requires c = search (rules, ready_numbers)

pub returns-then-not-in_range : goal.returns-then-not-in_range
returns-then-not-in_range c = search (rules, left-broken)

pub loop-i-preserved : goal.loop-i-preserved
loop-i-preserved c = search (rules, left-more)

pub returns : goal.returns
returns c = search (rules, left_end)
