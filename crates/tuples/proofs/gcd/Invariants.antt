-- `tuples::gcd` meets its contract. The gcd of what is left is the gcd.
use mathlib.Core.Path.{◌≡◌}
use Rattle.pairing.specs.Pairing.{gcd}
use Rattle.tuples.proofs.gcd.Given as goal

abbrev pub invariant-loop-y : goal.invariant-loop-y
invariant-loop-y l = gcd l.x l.y ≡ gcd l.a l.b

abbrev pub decreases-loop-y : goal.decreases-loop-y
decreases-loop-y l = l.y
