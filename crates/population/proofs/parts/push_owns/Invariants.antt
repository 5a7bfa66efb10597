use Rattle.buffer.specs.Written.{Wrote}
use Rattle.counting.specs.Lists.{up_from}
use Rattle.population.specs.Plan.{sizes_of}
use Rattle.population.proofs.parts.push_owns.Given as goal

abbrev pub invariant-loop-i : goal.invariant-loop-i
invariant-loop-i l = Wrote l.initial.out (sizes_of l.c (up_from l.x.groups l.i)) l.out
