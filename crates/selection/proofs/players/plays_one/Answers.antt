use Rattle.std.proofs.Common.{rules}
use Rattle.selection.specs.Laws.Players.{plays_none, plays_more, plays_found}
use Rattle.selection.proofs.players.plays_one.Goals as goal

pub loop-i-init : goal.loop-i-init
loop-i-init c = search (rules, plays_none)

pub returns-then-number : goal.returns-then-number
returns-then-number c = search (rules, plays_found)

pub loop-i-preserved : goal.loop-i-preserved
loop-i-preserved c = search (rules, plays_more)
