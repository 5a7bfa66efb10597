use Rattle.limits.proofs.Limited.{rows_is}
use Rattle.std.proofs.Common.{rules}
use Rattle.limits.proofs.preds.push_rows.Goals as goal

pub returns : goal.returns
returns c = search (rules, rows_is)
