use Rattle.std.proofs.Common.{drop, ◌≡◌, false}
use Rattle.orm.specs.Diagram.{plays}
use Rattle.table.specs.Positions.{roles_in}
use Rattle.selection.proofs.players.plays_one.Given as goal

abbrev pub invariant-loop-i : goal.invariant-loop-i
invariant-loop-i l = plays l.number (roles_in l.i (drop l.q l.t)) ≡ false
