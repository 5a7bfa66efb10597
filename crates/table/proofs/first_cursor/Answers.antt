-- `table::first_cursor` meets its contract. The sets before it are the types, the predicates and, for its groups, all roles.
use Rattle.table.specs.Laws.Cursors.{first-is}
use Rattle.std.proofs.Common.{rules}
use Rattle.table.proofs.first_cursor.Goals as goal

pub returns : goal.returns
returns c = search (rules, first-is)
