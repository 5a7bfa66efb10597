use Rattle.std.proofs.Common.{rules, ◌≡◌, ◌∙◌, ap, Err}
use Rattle.orm.specs.Outcome.{length_of, buffer_after}
use Rattle.reader.proofs.Answers.{refused_outcome, refused_kept, call_fitted}
use Rattle.reader.proofs.read_by.Goals as goal

pub returns-in_err-whole-clause-result_value : goal.returns-in_err-whole-clause-result_value
returns-in_err-whole-clause-result_value c =
    let refused : c.from_residual.result ≡ Err c.in_err-whole.field-0.0 = search rules in
    rw refused (refused_outcome _ c.args.numbers.now _ _ c.in_err-whole.ensures.result_after)

pub returns-in_err-whole-clause-table_after : goal.returns-in_err-whole-clause-table_after
returns-in_err-whole-clause-table_after c = refused_kept _ c.args.numbers.now _ _ c.in_err-whole.ensures.result_after

pub returns-clause-result_value : goal.returns-clause-result_value
returns-clause-result_value c = c.hand_out.ensures.result_value ∙ ap length_of (call_fitted _ _ _ _ c.in_ok-whole.ensures.result_after)

pub returns-clause-table_after : goal.returns-clause-table_after
returns-clause-table_after c = c.hand_out.ensures.table_after ∙ ap (λ o. buffer_after o c.args.table.now) (call_fitted _ _ _ _ c.in_ok-whole.ensures.result_after)
