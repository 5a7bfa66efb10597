-- `numerals::push_line` meets its contract. The key, and the numbers behind it.
use Rattle.numerals.proofs.Writing.{line-is}
use Rattle.std.proofs.Common.{rules}
use Rattle.numerals.proofs.push_line.Goals as goal

pub returns : goal.returns
returns c = search (rules, line-is)
