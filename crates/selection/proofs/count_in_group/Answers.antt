-- `selection::count_in_group` meets its contract. The roles of the predicate stand behind its line.
use Rattle.selection.specs.Laws.Selects.{in_group-count}
use Rattle.std.proofs.Common.{rules}
use Rattle.selection.proofs.count_in_group.Goals as goal

pub returns : goal.returns
returns c = search (rules, in_group-count)
