-- `prescription::prescribe` meets its contract. A table that is refused, or a valid one.
use Rattle.std.proofs.lemmas.Result.{err_from_is_err_and}
use Rattle.widening.specs.Laws.Accepts.{accepted-within, accepted-front}
use Rattle.widening.specs.Laws.Counts.{accepted-few, accepted-sets}
use Rattle.bounds.specs.Laws.Tables.{table-totals}
use Rattle.prescription.proofs.Answers.{table-refused, table-prescribed}
use Rattle.prescription.proofs.prescribe.Goals as goal

pub returns-in_err-widened : goal.returns-in_err-widened
returns-in_err-widened c =
    let p = err_from_is_err_and c.from_residual.result c.from_residual.ensures.1 in
    let h = table-refused _ c.args.cells.now _ _ c.in_err-widened.was c.accept.ensures.result_value in
    rw (p.1, p.2) (record { result_value = h.handed; cells_after = h.buffer })

pub slice_bounds-wide-end : goal.slice_bounds-wide-end
slice_bounds-wide-end c = accepted-within _ _ c.in_ok-widened.was c.accept.ensures.result_value c.accept.ensures.wide_after

pub slice_bounds-prescribe_valid-end : goal.slice_bounds-prescribe_valid-end
slice_bounds-prescribe_valid-end c = accepted-front _ _ c.in_ok-widened.was c.accept.ensures.result_value c.accept.ensures.wide_after

pub set_count-requires : goal.set_count-requires
set_count-requires c = accepted-few _ _ c.in_ok-widened.was c.accept.ensures.result_value c.accept.ensures.wide_after

pub prescribe_valid-requires : goal.prescribe_valid-requires
prescribe_valid-requires c = record {
  valid_totals = table-totals _ _ c.in_ok-widened.was c.accept.ensures.result_value c.accept.ensures.wide_after;
  sets_value = accepted-sets _ _ c.in_ok-widened.was c.accept.ensures.result_value c.accept.ensures.wide_after c.set_count.ensures;
}

pub returns : goal.returns
returns c =
    let h = table-prescribed _ _ _ _ c.in_ok-widened.was c.accept.ensures.result_value c.accept.ensures.wide_after c.prescribe_valid.ensures in
    record { result_value = h.handed; cells_after = h.buffer }
