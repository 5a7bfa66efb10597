-- The test of the rows left comes to the whole test.
use Rattle.columns.proofs.Walked.{Occurring}
use Rattle.columns.proofs.keys.Keys.occurring.Given as goal

abbrev pub invariant-loop-x : goal.invariant-loop-x
invariant-loop-x l = Occurring l.self.rows l.self.columns.now l.low l.high l.x
