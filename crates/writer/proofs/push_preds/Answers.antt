use Rattle.table.specs.Laws.Walks.{ahead-start, ahead-here, ahead_on}
use Rattle.buffer.specs.Laws.{writing_more, writing_all}
use Rattle.writer.proofs.Texts.{preds-start, preds-next, preds-end}
use Rattle.std.proofs.Common.{rules}
use Rattle.writer.proofs.push_preds.Goals as goal

pub loop-init : goal.loop-init
loop-init c = search (rules, ahead-start, preds-start)

pub push_pred-requires : goal.push_pred-requires
push_pred-requires c = search (rules, ahead-here)

pub next_pred-p-requires : goal.next_pred-p-requires
next_pred-p-requires c = search (rules, ahead-here)

pub loop-preserved : goal.loop-preserved
loop-preserved c = search (rules, ahead_on, writing_more, preds-next)

pub returns : goal.returns
returns c = search (rules, writing_all, preds-end)
