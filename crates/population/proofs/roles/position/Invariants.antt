use Rattle.std.proofs.Common.{drop, ◌+◌, ◌≡◌}
use Rattle.population.specs.Plan.{position}
use Rattle.population.proofs.roles.position.Given as goal

abbrev pub invariant-loop-i : goal.invariant-loop-i
invariant-loop-i l = l.i + position l.p (drop l.i l.list) ≡ position l.p l.list
