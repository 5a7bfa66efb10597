-- `numerals::separator_byte` meets its contract. A comma, or the line feed.
use Rattle.numerals.proofs.Writing.{separator-last, separator-other}
use Rattle.std.proofs.Common.{rules}
use Rattle.numerals.proofs.separator_byte.Goals as goal

pub returns-then-more-eq0 : goal.returns-then-more-eq0
returns-then-more-eq0 c = search (rules, separator-last)

pub returns-else-more-eq0 : goal.returns-else-more-eq0
returns-else-more-eq0 c = search (rules, separator-other)
