use Rattle.std.proofs.Common.{rules, ◌≡◌, Err}
use Rattle.reader.proofs.Answers.{form_refused, form_accepted}
use Rattle.reader.proofs.form.Goals as goal

pub returns-in_err-whole : goal.returns-in_err-whole
returns-in_err-whole c =
    let refused : c.from_residual.result ≡ Err c.in_err-whole.field-0.0 = search rules in
    rw refused (form_refused _ _ c.in_err-whole.ensures.result_value_2)

pub returns : goal.returns
returns c = form_accepted _ _ c.in_ok-whole.ensures.result_value_2
