-- `numerals::push_value` meets its contract. The separator is written behind the digits.
use Rattle.numerals.proofs.Writing.{value-is}
use Rattle.std.proofs.Common.{rules}
use Rattle.numerals.proofs.push_value.Goals as goal

pub returns : goal.returns
returns c = search (rules, value-is)
