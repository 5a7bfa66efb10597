use Rattle.std.proofs.Common.{length, ◌≡◌}
use Rattle.buffer.specs.Written.{Wrote}
use Rattle.population.proofs.RowLaws.{rows_to}
use Rattle.population.proofs.rows.push_rows.Given as goal

abbrev pub invariant-loop-i : goal.invariant-loop-i
invariant-loop-i l = record { wrote : Wrote l.initial.out (rows_to l.plan l.i) l.out; indices : length l.indices ≡ 12; flat : length l.flat ≡ 6 }
