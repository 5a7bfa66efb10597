-- `validator::validate` meets its contract. A table is refused with 1 to 6, or valid once it is widened.
use Rattle.std.proofs.lemmas.Result.{err_from_is_err_and}
use Rattle.widening.specs.Laws.Accepts.{accepted-within, accepted-front}
use Rattle.validator.proofs.Calls.{table-refused, table-valid, table-walkable, table-validated}
use Rattle.validator.proofs.validate.Goals as goal

pub returns-in_err-widened : goal.returns-in_err-widened
returns-in_err-widened c =
    let p = err_from_is_err_and c.from_residual.result c.from_residual.ensures.1 in
    rw (p.1, p.2) (table-refused _ _ c.in_err-widened.was c.accept.ensures.result_value)

pub slice_bounds-wide-end : goal.slice_bounds-wide-end
slice_bounds-wide-end c = accepted-within _ _ c.in_ok-widened.was c.accept.ensures.result_value c.accept.ensures.wide_after

pub slice_bounds-validate_cells-end : goal.slice_bounds-validate_cells-end
slice_bounds-validate_cells-end c = accepted-front _ _ c.in_ok-widened.was c.accept.ensures.result_value c.accept.ensures.wide_after

pub validate_cells-requires-clause-walkable : goal.validate_cells-requires-clause-walkable
validate_cells-requires-clause-walkable c = table-walkable _ _ c.in_ok-widened.was c.accept.ensures.result_value c.accept.ensures.wide_after

pub validate_cells-requires-clause-valid : goal.validate_cells-requires-clause-valid
validate_cells-requires-clause-valid c = table-valid _ _ c.in_ok-widened.was c.accept.ensures.result_value c.accept.ensures.wide_after

pub returns : goal.returns
returns c = table-validated _ _ c.in_ok-widened.was c.accept.ensures.result_value c.accept.ensures.wide_after _ _ c.validate_cells.ensures
