-- `bounds::check` meets its contract. A table that is refused, or a valid one.
use Rattle.std.proofs.lemmas.Result.{err_from_is_err_and}
use Rattle.widening.specs.Laws.Accepts.{accepted-within, accepted-front}
use Rattle.bounds.specs.Laws.Tables.{table-totals}
use Rattle.bounds.specs.Laws.Starts.{starts-own}
use Rattle.bounds.proofs.Tables.{table-refused, table-checked}
use Rattle.bounds.proofs.check.Goals as goal

pub returns-in_err-widened : goal.returns-in_err-widened
returns-in_err-widened c =
    let p = err_from_is_err_and c.from_residual.result c.from_residual.ensures.1 in
    let h = table-refused _ c.args.sizes.now c.in_err-widened.was c.accept.ensures.result_value in
    rw (p.1, p.2) (record { result_value = h.handed; sizes_after = h.buffer })

pub slice_bounds-wide-end : goal.slice_bounds-wide-end
slice_bounds-wide-end c = accepted-within _ _ c.in_ok-widened.was c.accept.ensures.result_value c.accept.ensures.wide_after

pub slice_bounds-check_valid-end : goal.slice_bounds-check_valid-end
slice_bounds-check_valid-end c = accepted-front _ _ c.in_ok-widened.was c.accept.ensures.result_value c.accept.ensures.wide_after

pub check_valid-requires : goal.check_valid-requires
check_valid-requires c = record {
  valid_totals = table-totals _ _ c.in_ok-widened.was c.accept.ensures.result_value c.accept.ensures.wide_after;
  starts = starts-own;
}

pub returns : goal.returns
returns c =
    let h = table-checked _ _ c.in_ok-widened.was c.accept.ensures.result_value c.accept.ensures.wide_after c.check_valid.ensures in
    record { result_value = h.handed; sizes_after = h.buffer }
