use Rattle.std.proofs.Common.{drop}
use Rattle.buffer.specs.Written.{Wrote}
use Rattle.orm.specs.Sets.{roles_in_group}
use Rattle.table.specs.Positions.{roles_in}
use Rattle.population.specs.Plan.{sizes_of}
use Rattle.population.proofs.parts.push_alone.Given as goal

abbrev pub invariant-loop-i : goal.invariant-loop-i
invariant-loop-i l = Wrote l.initial.out (sizes_of l.c (roles_in_group 0 l.first (roles_in l.i (drop l.q l.t)))) l.out
