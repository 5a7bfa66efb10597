use Rattle.cases.proofs.Numbers.{ended-digit, ended-other}
use Rattle.std.proofs.Common.{rules}
use Rattle.cases.proofs.push_ended.Goals as goal

pub returns-then-is_ascii_digit : goal.returns-then-is_ascii_digit
returns-then-is_ascii_digit c = search (rules, ended-digit)

pub returns : goal.returns
returns c = search (rules, ended-other)
