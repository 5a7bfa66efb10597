-- The rows counted and those left come to the whole.
use Rattle.columns.specs.Values.{key_of}
use Rattle.columns.proofs.Walked.{Counted}
use Rattle.columns.proofs.keys.Keys.occurrences.Given as goal

abbrev pub invariant-loop-y : goal.invariant-loop-y
invariant-loop-y l = Counted l.self.rows l.self.columns.now (key_of l.self.rows l.self.columns.now l.x) l.n l.y
