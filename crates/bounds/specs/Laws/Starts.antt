-- The bounds that the rounds start from are inside the diagram's own.
use Rattle.std.specs.Prelude.{ℕ, ◌≡◌, refl, List, length}
use Rattle.std.proofs.Common.{length-set}
use Rattle.orm.specs.Diagram.{Diagram}
use Rattle.orm.specs.Sets.{set_count, lower, upper}
use Rattle.orm.specs.Prescribe.{raised_at, capped_at}
use Rattle.orm.proofs.Laws.Rounds.{own-bounds}
use Rattle.orm.specs.Inside.{Inside}
use Rattle.orm.proofs.Laws.Prescribe.{prescribed-inside}
use Rattle.bounds.specs.Start.{lower_by, upper_by, Starts}
use Rattle.bounds.specs.declared.Start.{Start}
use Rattle.bounds.specs.declared.Start.TheVariants.{Own, Kept}

pub starts-inside : (x : Start) (d : Diagram) → Starts x (set_count d) → Inside d (lower_by x (lower d)) (upper_by x (upper d))
starts-inside Own d h = own-bounds d
starts-inside (Kept s size) d h = prescribed-inside d s size h.among

-- The diagram's own are bounds of its sets
pub starts-own : {n : ℕ} → Starts Own n
starts-own = record { among = tt }

-- as many as before
pub length-lower-by : (x : Start) (l : List ℕ) → length (lower_by x l) ≡ length l
unfolding raised_at
length-lower-by Own l = refl
length-lower-by (Kept s size) l = length-set l s _

pub length-upper-by : (x : Start) (l : List ℕ) → length (upper_by x l) ≡ length l
unfolding capped_at
length-upper-by Own l = refl
length-upper-by (Kept s size) l = length-set l s _
