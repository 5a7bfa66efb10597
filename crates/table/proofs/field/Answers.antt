-- `table::field` meets its contract. Every number is small.
use Rattle.table.specs.Laws.Walks.{field-small}
use Rattle.std.proofs.Common.{rules}
use Rattle.table.proofs.field.Goals as goal

pub returns : goal.returns
returns c = search (rules, field-small)
