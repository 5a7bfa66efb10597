use Rattle.std.proofs.Common.{rules, ◌≡◌, Ok, Err}
use Rattle.reader.proofs.Steps.{table-broken, table-reached}
use Rattle.reader.proofs.walk.table_step.Goals as goal

pub returns-then-table-end-clause-result_value : goal.returns-then-table-end-clause-result_value
returns-then-table-end-clause-result_value c = search (rules, table-broken)

pub returns-in_err-place-clause-result_value : goal.returns-in_err-place-clause-result_value
returns-in_err-place-clause-result_value c =
    let refused : c.from_residual.result ≡ Err c.in_err-place.field-0.0 = search rules in
    rw refused (table-reached _ _ _ _ c.kind_at.ensures.result_value_2 c.fields_of.ensures.value (Err c.in_err-place.field-0.0) c.if-table-end.false c.in_err-place.ensures)

pub returns-clause-result_value : goal.returns-clause-result_value
returns-clause-result_value c =
    table-reached _ _ _ _ c.kind_at.ensures.result_value_2 c.fields_of.ensures.value (Ok c.in_ok-place.place) c.if-table-end.false c.in_ok-place.ensures
