-- `propagation::pose` meets its contract. A table that is refused, or a valid one.
use Rattle.std.proofs.lemmas.Result.{err_from_is_err_and}
use Rattle.widening.specs.Laws.Accepts.{accepted-within, accepted-front}
use Rattle.widening.specs.Laws.Counts.{accepted-few}
use Rattle.propagation.proofs.Problems.{table_counted, posed_refused, posed_widened}
use Rattle.std.proofs.Common.{rules}
use Rattle.propagation.proofs.pose.Goals as goal

pub returns-in_err-widened : goal.returns-in_err-widened
returns-in_err-widened c =
    let p = err_from_is_err_and c.from_residual.result c.from_residual.ensures.1 in
    rw (p.1, p.2) (posed_refused _ c.accept.ensures.result_value _ c.in_err-widened.was)

pub set_count-sets-requires : goal.set_count-sets-requires
set_count-sets-requires c = accepted-few _ _ c.in_ok-widened.was c.accept.ensures.result_value c.accept.ensures.wide_after

pub slice_bounds-wide-end : goal.slice_bounds-wide-end
slice_bounds-wide-end c = accepted-within _ _ c.in_ok-widened.was c.accept.ensures.result_value c.accept.ensures.wide_after

pub slice_bounds-ready-end : goal.slice_bounds-ready-end
slice_bounds-ready-end c = accepted-front _ _ c.in_ok-widened.was c.accept.ensures.result_value c.accept.ensures.wide_after

pub ready-requires-clause-counted : goal.ready-requires-clause-counted
ready-requires-clause-counted c =
    table_counted _ c.accept.ensures.result_value _ c.in_ok-widened.was c.accept.ensures.wide_after c.set_count-sets.ensures

pub returns : goal.returns
returns c = posed_widened _ c.accept.ensures.result_value _ c.in_ok-widened.was c.accept.ensures.wide_after c.ready.ensures
