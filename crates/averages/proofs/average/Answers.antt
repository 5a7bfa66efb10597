-- `averages::average` meets its contract. A table that is refused, or a valid one.
use Rattle.std.proofs.lemmas.Result.{err_from_is_err_and}
use Rattle.widening.specs.Laws.Accepts.{accepted-within, accepted-front}
use Rattle.bounds.specs.Laws.Tables.{table-totals}
use Rattle.averages.proofs.Answers.{table-refused, table_average}
use Rattle.averages.proofs.average.Goals as goal

pub returns-in_err-widened : goal.returns-in_err-widened
returns-in_err-widened c =
    let p = err_from_is_err_and c.from_residual.result c.from_residual.ensures.1 in
    rw (p.1, p.2) (table-refused _ _ c.in_err-widened.was c.accept.ensures.result_value).is

pub slice_bounds-wide-end : goal.slice_bounds-wide-end
slice_bounds-wide-end c = accepted-within _ _ c.in_ok-widened.was c.accept.ensures.result_value c.accept.ensures.wide_after

pub slice_bounds-average_valid-end : goal.slice_bounds-average_valid-end
slice_bounds-average_valid-end c = accepted-front _ _ c.in_ok-widened.was c.accept.ensures.result_value c.accept.ensures.wide_after

pub average_valid-requires : goal.average_valid-requires
average_valid-requires c = table-totals _ _ c.in_ok-widened.was c.accept.ensures.result_value c.accept.ensures.wide_after

pub returns : goal.returns
returns c = (table_average _ _ _ c.in_ok-widened.was c.accept.ensures.result_value c.accept.ensures.wide_after c.average_valid.ensures).is
