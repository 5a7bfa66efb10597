-- The run goes on as far as the rows are like its first.
use Rattle.runs.proofs.Walked.{Going}
use Rattle.runs.proofs.run_end.Given as goal

abbrev pub invariant-loop-j : goal.invariant-loop-j
invariant-loop-j l = Going l.keys.rows l.keys.columns.now l.list l.first l.i l.j
