use Rattle.std.proofs.Common.{◌≡◌, ◌≤◌}
use Rattle.buffer.specs.Written.{Wrote}
use Rattle.tuples.specs.Steps.{padded, steps_from}
use Rattle.tuples.specs.StepsLaws.{behind}
use Rattle.tuples.proofs.push_steps.Given as goal

abbrev pub invariant-loop-i : goal.invariant-loop-i
invariant-loop-i l = record {
  wrote : Wrote l.initial.out (steps_from l.want l.n (padded l.i l.sizes)) l.out;
  tuples : l.tuples ≡ behind l.want l.n (padded l.i l.sizes);
  small : l.tuples ≤ 4096;
}
