-- `lines::step_at` meets its contract. A line that `line_at` gives stands inside the text, so the offset past it fits.
use Rattle.std.proofs.Common.{rules, arith}
use Rattle.lines.specs.Laws.Answers.{line-stands}
use Rattle.lines.proofs.Laws.{steps, stays}
use Rattle.lines.proofs.step_at.Goals as goal

pub overflow_add-result : goal.overflow_add-result
overflow_add-result c = omega (arith, line-stands _ _ c.line_at-line.ensures c.in-At.is)

pub overflow_add-result-in-At : goal.overflow_add-result-in-At
overflow_add-result-in-At c = omega (arith, line-stands _ _ c.line_at-line.ensures c.in-At.is)

pub returns-in-At : goal.returns-in-At
returns-in-At c = search (rules, steps)

pub returns-in-Nothing : goal.returns-in-Nothing
returns-in-Nothing c = search (rules, stays)
