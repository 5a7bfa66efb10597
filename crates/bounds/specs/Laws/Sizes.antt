-- The sizes that the rounds settle on: how many they are, that none is 0, and that they are small.
use Rattle.std.specs.Prelude.{ℕ, ◌≤◌, ◌<◌, ◌≡◌, List, length, get_or}
use Rattle.std.proofs.Common.{arith, ◌∙◌}
use Rattle.counting.proofs.Laws.Members.{each-get_or, get_or_in}
use Rattle.fixpoint.specs.Limits.{fixpoint}
use Rattle.fixpoint.specs.Notions.{◌≼◌, Solution}
use Rattle.fixpoint.proofs.Laws.Order.{≼_trans}
use Rattle.orm.specs.Diagram.{Diagram}
use Rattle.orm.specs.Sets.{set_count, lower, upper, limits, verdict_from}
use Rattle.orm.specs.WellFormed.{WellFormed}
use Rattle.orm.proofs.Laws.Rounds.{inside-laws}
use Rattle.orm.specs.Inside.{Inside}
use Rattle.orm.proofs.Laws.Bounds.{upper-sets, upper-few, lower-positive, upper-small}
use Rattle.limits.specs.Prepared.{most_sets}

module _ (d : Diagram) (w : WellFormed d) {low high : List ℕ} (i : Inside d low high) {n : ℕ} {c : List ℕ} (e : verdict_from d low high ≡ fixpoint n c) where
  solution : Solution (limits d) high c
  unfolding verdict_from
  solution = ((inside-laws i).at_fixpoint e).solution

  under : c ≼ upper d
  under = ≼_trans solution.under i.≼_upper

  above : lower d ≼ c
  unfolding verdict_from
  above = ≼_trans i.lower_≼ (((inside-laws i).fixpoint_iff c).0 (n, e)).0

  -- as many as there are sets
  pub sizes-all : length c ≡ set_count d
  sizes-all = under.sized ∙ upper-sets d

  pub sizes-few : length c ≤ most_sets
  sizes-few = omega (arith, under.sized, upper-few d w)

  pub sizes-small : (k : ℕ) → get_or c k 0 ≤ 4096
  sizes-small k = omega (arith, under.entry k, each-get_or (◌≤ 4096) (upper d) 0 (upper-small d w) (omega arith) k)

  pub sizes-positive : (k : ℕ) → k < set_count d → 1 ≤ get_or c k 0
  sizes-positive k h =
      omega (arith, lower-positive d w _ (get_or_in (lower d) k 0 (omega (arith, above.sized, sizes-all))), above.entry k)
