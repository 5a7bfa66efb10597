-- `selection::role_count` meets its contract. Each role has one type.
use Rattle.selection.specs.Laws.Types.{types-counted}
use Rattle.std.proofs.Common.{rules}
use Rattle.selection.proofs.role_count.Goals as goal

pub returns : goal.returns
returns c = search (rules, types-counted)
