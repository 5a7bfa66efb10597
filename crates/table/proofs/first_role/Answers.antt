-- `table::first_role` meets its contract. The sets before it are the types and the predicates.
use Rattle.table.specs.Laws.Cursors.{first-role-is}
use Rattle.std.proofs.Common.{rules}
use Rattle.table.proofs.first_role.Goals as goal

pub returns : goal.returns
returns c = search (rules, first-role-is)
