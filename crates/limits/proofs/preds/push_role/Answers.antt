use Rattle.limits.proofs.Limited.{role_is}
use Rattle.std.proofs.Common.{rules}
use Rattle.limits.proofs.preds.push_role.Goals as goal

pub returns : goal.returns
returns c = search (rules, role_is)
