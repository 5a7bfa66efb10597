use Rattle.limits.proofs.Limited.{group_is}
use Rattle.std.proofs.Common.{rules}
use Rattle.limits.proofs.preds.push_group.Goals as goal

pub returns : goal.returns
returns c = search (rules, group_is)
