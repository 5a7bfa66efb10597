use Rattle.std.proofs.Common.{rules}
use Rattle.lexer.proofs.Fields.{line-none, stored-none, line-some, stored_some}
use Rattle.lexer.proofs.lines.text_line.Goals as goal

pub returns-in_err-values-clause-value : goal.returns-in_err-values-clause-value
returns-in_err-values-clause-value c = search (rules, line-none)

pub returns-in_err-values-clause-out_after : goal.returns-in_err-values-clause-out_after
returns-in_err-values-clause-out_after c = search (rules, stored-none)

pub returns-clause-value : goal.returns-clause-value
returns-clause-value c = search (rules, line-some)

pub returns-clause-out_after : goal.returns-clause-out_after
returns-clause-out_after c = stored_some c.args.kind c.args.text.now c.args.at c.in_ok-values.values c.in_ok-values.ensures.value c.fields_of.ensures.value c.args.out.now c.numbers_at.ensures.out_after
