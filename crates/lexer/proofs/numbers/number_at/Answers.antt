use Rattle.std.proofs.Common.{rules}
use Rattle.lexer.proofs.Digits.{number-none, number-other, number-zero, number_more}
use Rattle.lexer.proofs.numbers.number_at.Goals as goal

pub returns-in_err-b-clause-value : goal.returns-in_err-b-clause-value
returns-in_err-b-clause-value c = search (rules, number-none)

pub returns-then-not-is_ascii_digit-clause-value : goal.returns-then-not-is_ascii_digit-clause-value
returns-then-not-is_ascii_digit-clause-value c = search (rules, number-other)

pub returns-then-b-eq48-clause-value : goal.returns-then-b-eq48-clause-value
returns-then-b-eq48-clause-value c = search (rules, number-zero)

pub returns-clause-value : goal.returns-clause-value
returns-clause-value c = search (rules, number_more)
