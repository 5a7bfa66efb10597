-- How many sets a well-formed diagram has at most, how large they are, and how many rounds are made.
use Rattle.std.specs.Prelude.{ℕ, ◌*◌, ◌≤◌, ◌<◌, ◌≡◌, List, [], ◌∷◌, length, get_or}
use Rattle.std.proofs.Math.Decide.{dec_lt}
use Rattle.std.proofs.Common.{mul-suc, arith}
use Rattle.std.proofs.Math.ListN.{get_or-eq_default}
use Rattle.counting.specs.Terms.{Each}
use Rattle.counting.proofs.Laws.Members.{each-head, each_tail, get_or_in}
use Rattle.counting.proofs.Laws.Index.{in_at, at-get_or, at-below}
use Rattle.fixpoint.specs.Limits.{slack, unsatisfiable, fixpoint}
use Rattle.fixpoint.specs.Notions.{◌≼◌, FirstBelow}
use Rattle.orm.specs.Diagram.{Diagram}
use Rattle.orm.specs.Sets.{lower, upper, most_rounds, verdict, verdict_from}
use Rattle.orm.specs.WellFormed.{WellFormed}
use Rattle.orm.proofs.Laws.Bounds.{lower-few, upper-few, upper-small}
use Rattle.orm.proofs.Laws.Rounds.{verdict-laws, unsatisfiable-within, fixpoint-within}

-- ---- lists of sizes

slack-at-most : (b : ℕ) (fs xs : List ℕ) → Each (◌≤ b) xs → slack fs xs ≤ b * length xs
unfolding slack
slack-at-most b [] xs h = omega arith
slack-at-most b (f ∷ fs) [] h = omega arith
slack-at-most b (f ∷ fs) (x ∷ xs) h =
    omega (arith, each-head (◌≤ b) h, slack-at-most b fs xs (each_tail (◌≤ b) h), mul-suc b (length xs))

below-small : (b : ℕ) {xs ys : List ℕ} → xs ≼ ys → Each (◌≤ b) ys → Each (◌≤ b) xs
below-small b {xs} {ys} le h v m =
    let (i, at) = in_at m in
    let inside : i < length ys = omega (arith, at-below at, le.sized) in
    omega (arith, at-get_or 0 at, le.entry i, h (get_or ys i 0) (get_or_in ys i 0 inside))

first-below-inside : (fs c : List ℕ) (s : ℕ) → FirstBelow fs c s → s < length fs
first-below-inside fs c s h = go (dec_lt s (length fs))
  where
    go : Dec (s < length fs) → s < length fs
    go (yes k) = k
    go (no k) = absurd (omega (arith, h.below, get_or-eq_default fs 0 {n = s} (omega arith)))

-- ---- the sets of a diagram

module _ (d : Diagram) (form : WellFormed d) where
  rounds-at-most : most_rounds d ≤ 851969
  unfolding most_rounds
  rounds-at-most = omega (arith, slack-at-most 4096 (lower d) (upper d) (upper-small d form), upper-few d form)

  module _ {n : ℕ} {c : List ℕ} (e : verdict d ≡ fixpoint n c) where
    pub settled-rounds : n ≤ 851969
    settled-rounds = omega (arith, fixpoint-within d e, rounds-at-most)

    settled-under : c ≼ upper d
    unfolding verdict_from
    settled-under = ((verdict-laws d).at_fixpoint e).solution.under

    pub settled-few : length c ≤ 208
    settled-few = omega (arith, settled-under.sized, upper-few d form)

    pub settled-small : Each (◌≤ 4096) c
    settled-small = below-small 4096 settled-under (upper-small d form)

  module _ {s n : ℕ} (e : verdict d ≡ unsatisfiable s n) where
    pub emptied-rounds : n ≤ 851969
    emptied-rounds = omega (arith, unsatisfiable-within d e, rounds-at-most)

    pub emptied-set : s < 208
    unfolding verdict_from
    emptied-set = omega (arith, first-below-inside (lower d) _ s ((verdict-laws d).at_unsatisfiable e).first, lower-few)
