use Rattle.std.specs.Prelude.{◌≡◌}
use Rattle.std.proofs.Common.{take}
use Rattle.buffer.specs.Written.{Wrote}
use Rattle.dependents.specs.Dependents.{differing}
use Rattle.dependents.proofs.Walks.{taken}
use Rattle.dependents.proofs.rounds.take_sizes.Given as goal

abbrev pub invariant-loop-i : goal.invariant-loop-i
invariant-loop-i l =
    (l.before ≡ taken l.initial.before l.after l.i) × Wrote l.initial.out (differing 0 (take l.i l.initial.before) (take l.i l.after)) l.out
