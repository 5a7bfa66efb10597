use Rattle.limits.proofs.Preparing.{lower-counted}
use Rattle.std.proofs.Common.{rules}
use Rattle.limits.proofs.prepare.Goals as goal

pub returns : goal.returns
returns c = search (rules, lower-counted)
