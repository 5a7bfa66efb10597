-- `report::push_pred` meets its contract. The number, and the rows behind it.
use Rattle.report.proofs.Steps.{pred-is}
use Rattle.std.proofs.Common.{rules}
use Rattle.report.proofs.push_pred.Goals as goal

pub returns : goal.returns
returns c = search (rules, pred-is)
