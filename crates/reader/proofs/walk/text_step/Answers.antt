use Rattle.std.proofs.Common.{rules, ◌≡◌, ◌+◌, ◌≤◌, length, Ok, Err}
use Rattle.reader.proofs.Steps.{room-check, text-broken, text-reached}
use Rattle.reader.proofs.walk.text_step.Goals as goal

pub returns-in_default-clause-result_after : goal.returns-in_default-clause-result_after
returns-in_default-clause-result_after c = search (rules, text-broken)

pub returns-in_err-place-clause-result_after : goal.returns-in_err-place-clause-result_after
returns-in_err-place-clause-result_after c =
    let kind = c.kind_at-kind.ensures in
    let write = c.write_line.ensures in
    let fields = c.fields_of.ensures.value in
    let refused : c.from_residual.result ≡ Err c.in_err-place.field-0.0 = search rules in
    let room : c.args.end + c.fields_of.result ≤ length c.write_line.new.table =
    room-check c.requires.room c.requires.place_value _ _ _ fields kind.result_value_2 c.requires.table_len c.write_line.auto.table in
    rw refused (text-reached _ _ kind.result_value _ _ write.value _ _ _ (Err c.in_err-place.field-0.0) kind.result_value_2 fields room write.table_after
    c.in-Some.is c.in_err-place.ensures)

pub returns-clause-result_after : goal.returns-clause-result_after
returns-clause-result_after c =
    let kind = c.kind_at-kind.ensures in
    let write = c.write_line.ensures in
    let fields = c.fields_of.ensures.value in
    let room : c.args.end + c.fields_of.result ≤ length c.write_line.new.table =
    room-check c.requires.room c.requires.place_value _ _ _ fields kind.result_value_2 c.requires.table_len c.write_line.auto.table in
    text-reached _ _ kind.result_value _ _ write.value _ _ _ (Ok c.in_ok-place.place) kind.result_value_2 fields room write.table_after
    c.in-Some.is c.in_ok-place.ensures
