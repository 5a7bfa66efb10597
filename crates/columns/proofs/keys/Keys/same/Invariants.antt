-- The comparison of the columns left comes to the whole comparison.
use Rattle.columns.proofs.Walked.{SameFrom}
use Rattle.columns.proofs.keys.Keys.same.Given as goal

abbrev pub invariant-loop-j : goal.invariant-loop-j
invariant-loop-j l = SameFrom l.self.rows l.self.columns.now l.x l.y l.a l.b l.j-index
