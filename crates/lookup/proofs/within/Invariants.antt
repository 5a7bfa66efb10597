-- The test of the values left comes to the whole test.
use Rattle.lookup.proofs.Walks.{WithinLeft}
use Rattle.lookup.proofs.within.Given as goal

abbrev pub invariant-loop-i : goal.invariant-loop-i
invariant-loop-i l = WithinLeft l.values l.list l.i
