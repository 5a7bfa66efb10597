use Rattle.cases.proofs.Numbers.{going-digit, going-other}
use Rattle.std.proofs.Common.{rules}
use Rattle.cases.proofs.go_on.Goals as goal

pub returns-then-is_ascii_digit : goal.returns-then-is_ascii_digit
returns-then-is_ascii_digit c = search (rules, going-digit)

pub returns-else-is_ascii_digit : goal.returns-else-is_ascii_digit
returns-else-is_ascii_digit c = search (rules, going-other)
