use Rattle.buffer.specs.Written.{Wrote}
use Rattle.table.specs.Cursors.{placed_at}
use Rattle.population.proofs.PartLaws.{group_counts}
use Rattle.population.proofs.parts.push_counts.Given as goal

abbrev pub invariant-loop-i : goal.invariant-loop-i
invariant-loop-i l = Wrote l.initial.out (group_counts (placed_at l.t l.x) l.i) l.out
