-- `propagation::lower_in` meets its contract. A table that is refused, or the limits of its diagram.
use Rattle.std.proofs.lemmas.Result.{err_from_is_err_and}
use Rattle.propagation.proofs.Problems.{limits_within, limits-closed}
use Rattle.propagation.proofs.Answers.{lower-refused, lower-told}
use Rattle.propagation.proofs.lower_in.Goals as goal

pub returns-in_err-sets : goal.returns-in_err-sets
returns-in_err-sets c =
    let p = err_from_is_err_and c.from_residual.result c.from_residual.ensures.1 in
    rw (p.1, p.2) (lower-refused _ c.pose.ensures c.in_err-sets.was _ _)

pub limits-requires : goal.limits-requires
limits-requires c = limits_within c.pose.ensures c.in_ok-sets.was

pub lower_front-requires : goal.lower_front-requires
lower_front-requires c = limits-closed c.pose.ensures c.in_ok-sets.was c.limits.result c.limits.ensures.limits c.limits.ensures.operands

pub returns : goal.returns
returns c = lower-told _ c.pose.ensures c.in_ok-sets.was c.limits.result c.limits.ensures.limits c.limits.ensures.operands _ c.lower_front.ensures
