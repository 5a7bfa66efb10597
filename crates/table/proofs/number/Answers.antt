-- `table::number` meets its contract. It is there.
use Rattle.buffer.specs.Laws.{item_here}
use Rattle.table.specs.Laws.Walks.{number_small}
use Rattle.std.proofs.Common.{rules}
use Rattle.table.proofs.number.Goals as goal

pub returns : goal.returns
returns c = search (rules, item_here, number_small)
