use Rattle.supertypes.specs.Laws.{entry_past, entry-there}
use Rattle.std.proofs.Common.{rules}
use Rattle.supertypes.proofs.entry.Goals as goal

pub returns-then-count-a : goal.returns-then-count-a
returns-then-count-a c = search (rules, entry_past)

pub returns : goal.returns
returns c = search (rules, entry-there)
