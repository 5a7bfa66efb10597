-- `numerals::digits` meets its contract. The digits of what is left, and those written, are the number's.
use mathlib.Core.Path.{◌≡◌}
use lib.ListN.{length}
use Rattle.numerals.proofs.Writing.{Digits}
use Rattle.numerals.proofs.digits.Given as goal

abbrev pub invariant-loop-left : goal.invariant-loop-left
invariant-loop-left l = (length l.out ≡ length l.initial.out) × Digits l.n l.out l.from l.left

abbrev pub decreases-loop-left : goal.decreases-loop-left
decreases-loop-left l = l.left
