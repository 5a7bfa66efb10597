use Rattle.limits.proofs.Limited.{sum_is}
use Rattle.limits.proofs.types.push_sum.Goals as goal

pub returns : goal.returns
returns c =
    sum_is c.args.a _ c.place-from.ensures c.place-to.ensures c.push_of_type.ensures c.push.ensures.same_limits c.push.ensures.same_operands c.push.ensures.is
