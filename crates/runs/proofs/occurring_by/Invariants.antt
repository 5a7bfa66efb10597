-- `runs::occurring_by` meets its contract. The runs that are left come to all.
use Prim.Native.Nat.{◌-◌, ◌≤◌}
use lib.ListN.{length}
use Rattle.runs.proofs.Walked.{Left}
use Rattle.runs.proofs.occurring_by.Given as goal

abbrev pub invariant-loop-i : goal.invariant-loop-i
invariant-loop-i l = (l.i ≤ length l.numbers) × Left l.low l.high l.keys.rows l.keys.columns.now l.numbers l.i

abbrev pub decreases-loop-i : goal.decreases-loop-i
decreases-loop-i l = length l.numbers - l.i
