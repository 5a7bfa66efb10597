use Rattle.std.proofs.Common.{rules}
use Rattle.selection.specs.Laws.Players.{independent_free, root-must, subtype-must}
use Rattle.selection.proofs.players.must_play.Goals as goal

pub returns-then-root : goal.returns-then-root
returns-then-root c = search (rules, root-must)

pub returns-else-root : goal.returns-else-root
returns-else-root c = search (rules, subtype-must)

pub returns-else-not-independent : goal.returns-else-not-independent
returns-else-not-independent c = search (rules, independent_free)
