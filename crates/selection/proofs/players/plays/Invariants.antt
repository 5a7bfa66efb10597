use Rattle.selection.specs.Laws.Players.{PlaysNone}
use Rattle.selection.proofs.players.plays.Given as goal

abbrev pub invariant-loop : goal.invariant-loop
invariant-loop l = PlaysNone l.t l.number l.q l.counter
