-- Each end of the rounds is an answer.
use Rattle.bounds.proofs.Answers.{set-fits, answer-unsatisfiable, answer-fixpoint}
use Rattle.std.proofs.Common.{rules}
use Rattle.bounds.proofs.settle.Goals as goal

pub overflow_add-result : goal.overflow_add-result
overflow_add-result c = search (rules, set-fits)

pub returns-in-Err : goal.returns-in-Err
returns-in-Err c = search (rules, answer-unsatisfiable)

pub returns-in-Ok : goal.returns-in-Ok
returns-in-Ok c = search (rules, answer-fixpoint)
