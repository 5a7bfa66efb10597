use Rattle.std.proofs.Common.{rules}
use Rattle.limits.proofs.Limited.{only_is}
use Rattle.limits.proofs.preds.only_part.Goals as goal

pub returns : goal.returns
returns c =
    let e = only_is c.new-only.ensures.is c.push_parts.ensures c.requires.one in
    search rules
