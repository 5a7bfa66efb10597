use Rattle.std.proofs.Common.{take, sum, ◌≡◌}
use Rattle.tuples.specs.Nested.{tuples_in}
use Rattle.tuples.specs.Stored.{Stored}
use Rattle.tuples.proofs.tuple_each.Given as goal

abbrev pub invariant-loop-n : goal.invariant-loop-n
invariant-loop-n l = record {
  stored : Stored l.initial.out 0 (tuples_in l.steps l.counts (take l.n l.rows)) l.out;
  at : l.at ≡ sum (take l.n l.counts);
}
