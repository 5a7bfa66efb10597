-- `multiples::multiple` meets its contract. The table's rule at the entry.
use Rattle.multiples.proofs.Laws.{multiple-found}
use Rattle.std.proofs.Common.{rules}
use Rattle.multiples.proofs.multiple.Goals as goal

pub returns : goal.returns
returns c = search (rules, multiple-found)
