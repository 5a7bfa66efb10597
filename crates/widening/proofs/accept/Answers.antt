use Rattle.std.proofs.Common.{rules, ◌≡◌, Err}
use Rattle.widening.proofs.Answers.{refused_told, refused_kept, form_inside, widened_told, widened_written}
use Rattle.widening.proofs.accept.Goals as goal

pub returns-in_err-totals-clause-result_value : goal.returns-in_err-totals-clause-result_value
returns-in_err-totals-clause-result_value c =
    let refused : c.from_residual.result ≡ Err c.in_err-totals.field-0.0 = search rules in
    rw refused (refused_told _ _ c.in_err-totals.ensures)

pub returns-in_err-totals-clause-wide_after : goal.returns-in_err-totals-clause-wide_after
returns-in_err-totals-clause-wide_after c = refused_kept _ _ c.in_err-totals.ensures _

pub widen_to-requires : goal.widen_to-requires
widen_to-requires c = form_inside _ _ c.in_ok-totals.ensures

pub returns-clause-result_value : goal.returns-clause-result_value
returns-clause-result_value c = widened_told _ _ c.in_ok-totals.ensures c.requires c.widen_to.ensures

pub returns-clause-wide_after : goal.returns-clause-wide_after
returns-clause-wide_after c = widened_written _ _ c.in_ok-totals.ensures c.requires c.widen_to.ensures
