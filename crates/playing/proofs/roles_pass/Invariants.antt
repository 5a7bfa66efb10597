-- What was noted and marked and the roles left come to all.
use Rattle.std.proofs.Common.{◌+◌, ◌*◌}
use Rattle.table.specs.Positions.{role_width}
use Rattle.playing.proofs.Walk.{RolesLeft}
use Rattle.playing.proofs.roles_pass.Given as goal

abbrev pub invariant-loop-j : goal.invariant-loop-j
invariant-loop-j l =
    RolesLeft l.pred.table.now l.pred.cells.now l.number l.own l.pred.line l.pred.at l.list
    l.initial.marks l.initial.faults.lowest l.pred.width l.marks l.faults.lowest (l.first + role_width * l.j) l.j (8 * l.own + l.j)
