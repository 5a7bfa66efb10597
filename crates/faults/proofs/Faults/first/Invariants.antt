-- The first of the entries left is the first of all.
use Rattle.faults.proofs.Noting.{EntriesLeft}
use Rattle.faults.proofs.Faults.first.Given as goal

abbrev pub invariant-loop-k : goal.invariant-loop-k
invariant-loop-k l = EntriesLeft l.self.lowest l.k
