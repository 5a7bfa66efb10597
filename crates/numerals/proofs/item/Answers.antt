-- `numerals::item` meets its contract. An index past the end reads 0.
use Rattle.numerals.proofs.Writing.{item_past, item_here}
use Rattle.std.proofs.Common.{rules}
use Rattle.numerals.proofs.item.Goals as goal

pub returns-then-rest-i : goal.returns-then-rest-i
returns-then-rest-i c = search (rules, item_past)

pub returns : goal.returns
returns c = search (rules, item_here)
