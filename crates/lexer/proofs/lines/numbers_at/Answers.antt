use Rattle.std.proofs.Common.{rules}
use Rattle.lexer.proofs.Fields.{numbers-start, numbers-end, numbers-malformed, numbers-unended, numbers_more, stored-end, stored-malformed, stored-unended}
use Rattle.lexer.proofs.lines.numbers_at.Goals as goal

pub returns-in_err-number-clause-value : goal.returns-in_err-number-clause-value
returns-in_err-number-clause-value c = search (rules, numbers-malformed)

pub returns-in_err-number-clause-out_after : goal.returns-in_err-number-clause-out_after
returns-in_err-number-clause-out_after c = search (rules, stored-malformed)

pub returns-in_err-at-clause-value : goal.returns-in_err-at-clause-value
returns-in_err-at-clause-value c = search (rules, numbers-unended)

pub returns-in_err-at-clause-out_after : goal.returns-in_err-at-clause-out_after
returns-in_err-at-clause-out_after c = search (rules, stored-unended)

pub loop-i-init : goal.loop-i-init
loop-i-init c = record { inside = c.requires.start_in_bounds; long = search rules; rest = numbers-start _ _ _ _ }

pub loop-i-preserved : goal.loop-i-preserved
loop-i-preserved c = record { inside = search rules; long = search rules; rest = numbers_more _ _ _ _ _ _ _ c.loop-i.invariant.rest c.loop-i-test.true _ _ c.in_ok-number.ensures.value _ c.in_ok-at.ensures.value }

pub returns-clause-value : goal.returns-clause-value
returns-clause-value c = search (rules, numbers-end)

pub returns-clause-out_after : goal.returns-clause-out_after
returns-clause-out_after c = search (rules, stored-end)
