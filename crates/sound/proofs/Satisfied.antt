-- That limits hold of some sizes.
use Rattle.std.specs.Prelude.{ℕ, ◌≤◌, List, get_or}
use Rattle.std.proofs.Common.{arith}
use Rattle.counting.specs.Totals.{product_over}
use Rattle.fixpoint.specs.Limits.{value_of}
use Rattle.fixpoint.specs.Notions.{Holds}
use Rattle.orm.specs.Sets.{at_most}

pub at-most : (c : List ℕ) (s t : ℕ) → get_or c s 0 ≤ get_or c t 0 → Holds c (at_most s t)
unfolding at_most value_of product_over
at-most c s t h = omega arith
