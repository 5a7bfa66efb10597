use Rattle.buffer.specs.Written.{Wrote}
use Rattle.table.specs.Cursors.{placed_at}
use Rattle.population.proofs.PartLaws.{grouped}
use Rattle.population.proofs.parts.push_order.Given as goal

abbrev pub invariant-loop-i : goal.invariant-loop-i
invariant-loop-i l = Wrote l.initial.out (grouped (placed_at l.t l.x) 1 l.i) l.out
