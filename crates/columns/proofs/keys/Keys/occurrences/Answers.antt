use Rattle.columns.proofs.Walked.{counted-start, counted_none, counted-one, counted-other}
use Rattle.std.proofs.Common.{rules}
use Rattle.columns.proofs.keys.Keys.occurrences.Goals as goal
use Rattle.columns.proofs.keys.Keys.occurrences.Goals.{then-same, else-same}

pub loop-y-init : goal.loop-y-init
loop-y-init c = search (rules, counted-start)

pub loop-y-preserved : goal.loop-y-preserved
loop-y-preserved c =
    elim c.if-same.branch [
      | then-same w ↦ rw w.n-is (search (rules, counted-one))
      | else-same w ↦ rw w.n-is (search (rules, counted-other))
    ]

pub returns : goal.returns
returns c = search (rules, counted_none)
