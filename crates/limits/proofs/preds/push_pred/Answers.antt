use Rattle.limits.proofs.Walked.{pred_is}
use Rattle.std.proofs.Common.{rules}
use Rattle.limits.proofs.preds.push_pred.Goals as goal

pub returns : goal.returns
returns c = search (rules, pred_is)
