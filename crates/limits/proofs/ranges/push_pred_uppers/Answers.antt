use Rattle.table.specs.Laws.Walks.{ahead-start, ahead-here, ahead_second, ahead_on}
use Rattle.buffer.specs.Laws.{writing_more, writing_all}
use Rattle.limits.proofs.Columns.{preds-start, preds-next, preds-end}
use Rattle.std.proofs.Common.{rules}
use Rattle.limits.proofs.ranges.push_pred_uppers.Goals as goal

pub loop-init : goal.loop-init
loop-init c = search (rules, preds-start, ahead-start)

pub number-requires : goal.number-requires
number-requires c = search (rules, ahead_second)

pub next_pred-p-requires : goal.next_pred-p-requires
next_pred-p-requires c = search (rules, ahead-here)

pub loop-preserved : goal.loop-preserved
loop-preserved c = search (rules, writing_more, preds-next, ahead_on)

pub returns : goal.returns
returns c = search (rules, writing_all, preds-end)
