-- `table::next_cursor` meets its contract. The numbers of the next cursor are read off the predicate's line.
use Rattle.table.specs.Laws.Cursors.{next-is}
use Rattle.std.proofs.Common.{rules}
use Rattle.table.proofs.next_cursor.Goals as goal

pub returns : goal.returns
returns c = search (rules, next-is)
