-- `runs::occurring` meets its contract. So few rows break no limits, or they are sorted.
use Rattle.runs.proofs.Walked.{loose}
use Rattle.std.proofs.Common.{rules}
use Rattle.runs.proofs.occurring.Goals as goal

pub returns-then-keys-high : goal.returns-then-keys-high
returns-then-keys-high c = search (rules, loose)
