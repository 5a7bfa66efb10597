-- The bounds that the rounds start from, of those of the diagram.
use Rattle.std.specs.Prelude.{ℕ, ◌<◌, ◌≡◌, List}
use Rattle.fixpoint.specs.Limits.{Verdict}
use Rattle.orm.specs.Diagram.{Diagram}
use Rattle.orm.specs.Sets.{set_count, lower, upper, verdict_from}
use Rattle.orm.specs.Prescribe.{raised_at, capped_at}
use Rattle.table.specs.Positions.{diagram_of}
use Rattle.limits.specs.Prepared.{ValidTotals}
use Rattle.bounds.specs.declared.Problem.{Problem}
use Rattle.bounds.specs.declared.Start.{Start}
use Rattle.bounds.specs.declared.Start.TheVariants.{Own, Kept}

-- The lower bounds that the rounds start from, of these
abbrev pub lower_by : Start → List ℕ → List ℕ
lower_by Own low = low
lower_by (Kept s size) low = raised_at s size low

-- The upper bounds likewise
abbrev pub upper_by : Start → List ℕ → List ℕ
upper_by Own high = high
upper_by (Kept s size) high = capped_at s size high

-- How the rounds from these bounds end
abbrev pub verdict_by : Start → Diagram → Verdict
verdict_by x d = verdict_from d (lower_by x (lower d)) (upper_by x (upper d))

-- A set that is kept to one size is one of so many
abbrev pub Among : Start → ℕ → Type 0
Among Own n = Unit {0}
Among (Kept s size) n = s < n

pub record Starts (x : Start) (n : ℕ) : Type 0 where
  pub among : Among x n

-- Lower and upper bounds before and after they are narrowed
pub record Narrowed (x : Start) (low high low' high' : List ℕ) : Type 0 where
  pub lower_is : low' ≡ lower_by x low
  pub upper_is : high' ≡ upper_by x high

-- A valid table, how many roles and groups its diagram has, and bounds of its sets
pub record Posed (t : List ℕ) (p : Problem) : Type 0 where
  pub totals : ValidTotals t p.roles p.groups
  pub starts : Starts p.start (set_count (diagram_of t))
