use Rattle.buffer.specs.Laws.{writing_more, writing_all}
use Rattle.table.specs.Laws.Walks.{ahead-start, ahead-here, ahead-third, ahead_on}
use Rattle.report.proofs.Steps.{preds-begin, pred-lines-more, pred-lines-none}
use Rattle.std.proofs.Common.{rules}
use Rattle.report.proofs.push_preds.Goals as goal

pub loop-i-init : goal.loop-i-init
loop-i-init c = search (rules, preds-begin, ahead-start)

pub number-width-requires : goal.number-width-requires
number-width-requires c = search (rules, ahead-third)

pub next_pred-q-requires : goal.next_pred-q-requires
next_pred-q-requires c = search (rules, ahead-here)

pub loop-i-preserved : goal.loop-i-preserved
loop-i-preserved c = search (rules, writing_more, pred-lines-more, ahead_on)

pub returns : goal.returns
returns c = search (rules, writing_all, pred-lines-none)
