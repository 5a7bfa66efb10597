-- `lines::line_at` meets its contract. The loop's invariant: from the offset to i there is no line feed.
use Rattle.std.proofs.Common.{length, ◌-◌, ◌≤◌}
use Rattle.lines.proofs.Laws.{Passed}
use Rattle.lines.proofs.line_at.Given as goal

abbrev pub invariant-loop-i : goal.invariant-loop-i
invariant-loop-i l = (l.offset ≤ l.i) × Passed l.text l.offset l.i

abbrev pub decreases-loop-i : goal.decreases-loop-i
decreases-loop-i l = length l.text - l.i
