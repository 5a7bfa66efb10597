-- `numerals::push_count` meets its contract. The key, and the number behind it.
use Rattle.numerals.proofs.Writing.{count-is}
use Rattle.std.proofs.Common.{rules}
use Rattle.numerals.proofs.push_count.Goals as goal

pub returns : goal.returns
returns c = search (rules, count-is)
