-- `populate::populate` meets its contract. A table that is refused, or a valid one.
use Rattle.std.proofs.lemmas.Result.{err_from_is_err_and}
use Rattle.widening.specs.Laws.Accepts.{accepted-within, accepted-front}
use Rattle.bounds.specs.Laws.Tables.{table-totals}
use Rattle.bounds.specs.Laws.Starts.{starts-own}
use Rattle.populate.proofs.Answers.{table-refused, table-populated}
use Rattle.populate.proofs.populate.Goals as goal

pub returns-in_err-widened : goal.returns-in_err-widened
returns-in_err-widened c =
    let p = err_from_is_err_and c.from_residual.result c.from_residual.ensures.1 in
    let h = table-refused _ c.args.cells.now c.in_err-widened.was c.accept.ensures.result_value in
    rw (p.1, p.2) (record { result_value = h.handed; cells_after = h.buffer })

pub slice_bounds-wide-end : goal.slice_bounds-wide-end
slice_bounds-wide-end c = accepted-within _ _ c.in_ok-widened.was c.accept.ensures.result_value c.accept.ensures.wide_after

pub slice_bounds-populate_valid-end : goal.slice_bounds-populate_valid-end
slice_bounds-populate_valid-end c = accepted-front _ _ c.in_ok-widened.was c.accept.ensures.result_value c.accept.ensures.wide_after

pub populate_valid-requires : goal.populate_valid-requires
populate_valid-requires c = record {
  valid_totals = table-totals _ _ c.in_ok-widened.was c.accept.ensures.result_value c.accept.ensures.wide_after;
  starts = starts-own;
}

pub returns : goal.returns
returns c =
    let h = table-populated _ _ c.in_ok-widened.was c.accept.ensures.result_value c.accept.ensures.wide_after c.populate_valid.ensures in
    record { result_value = h.handed; cells_after = h.buffer }
