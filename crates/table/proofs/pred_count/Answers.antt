-- `table::pred_count` meets its contract. It stands behind the types.
use Rattle.table.specs.Laws.Walks.{pred-count-is, pred-count-few}
use Rattle.std.proofs.Common.{rules}
use Rattle.table.proofs.pred_count.Goals as goal

pub returns : goal.returns
returns c = search (rules, pred-count-is, pred-count-few)
