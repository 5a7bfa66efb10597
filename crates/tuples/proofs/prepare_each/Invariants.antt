use Rattle.std.proofs.Common.{take, drop, sum, ◌≡◌}
use Rattle.buffer.specs.Written.{Wrote}
use Rattle.tuples.specs.Nested.{steps_of_each}
use Rattle.tuples.specs.Steps.{Small}
use Rattle.tuples.proofs.prepare_each.Given as goal

abbrev pub invariant-loop-n : goal.invariant-loop-n
invariant-loop-n l = record {
  wrote : Wrote l.initial.out (steps_of_each (take l.n l.wants) l.counts l.sizes) l.out;
  rest : l.rest ≡ drop (sum (take l.n l.counts)) l.sizes;
  small : Small l.rest;
}
