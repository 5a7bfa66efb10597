-- `numerals::push_decimal` meets its contract. One digit, or the digits from the last one on.
use Rattle.numerals.proofs.Writing.{wrote-digit, wrote-digits}
use Rattle.std.proofs.Common.{rules}
use Rattle.numerals.proofs.push_decimal.Goals as goal

pub returns-then-n-lt10 : goal.returns-then-n-lt10
returns-then-n-lt10 c = search (rules, wrote-digit)

pub returns : goal.returns
returns c = search (rules, wrote-digits)
