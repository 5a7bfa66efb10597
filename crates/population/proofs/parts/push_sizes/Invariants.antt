use Rattle.std.proofs.Common.{take}
use Rattle.buffer.specs.Written.{Wrote}
use Rattle.population.specs.Plan.{sizes_of}
use Rattle.population.proofs.parts.push_sizes.Given as goal

abbrev pub invariant-loop-set : goal.invariant-loop-set
invariant-loop-set l = Wrote l.initial.out (sizes_of l.c (take l.set-index l.sets)) l.out
