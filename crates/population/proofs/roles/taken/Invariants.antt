use Rattle.std.proofs.Common.{◌+◌, ◌*◌, ◌≤◌}
use Rattle.population.proofs.RoleLaws.{Taking}
use Rattle.population.proofs.roles.taken.Given as goal

abbrev pub invariant-loop-i : goal.invariant-loop-i
invariant-loop-i l = record { taking : Taking l.c l.number l.p l.types l.first l.i (l.first + l.i) l.sum; small : l.sum ≤ 4096 * l.i }
