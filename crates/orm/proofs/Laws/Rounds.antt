-- The laws of the rounds, for the sets of a diagram.
use Rattle.std.specs.Prelude.{ℕ, ◌≤◌, ◌≡◌, List}
use Rattle.std.proofs.Common.{sym, ◌∙◌, arith}
use Rattle.fixpoint.specs.Limits.{unsatisfiable, fixpoint}
use Rattle.fixpoint.specs.Laws.{RunLaws}
use Rattle.fixpoint.proofs.Laws.{run-laws}
use Rattle.fixpoint.proofs.Laws.Order.{≼_refl}
use Rattle.orm.specs.Diagram.{Diagram}
use Rattle.orm.specs.Sets.{lower, upper, limits, most_rounds, verdict, verdict_from}
use Rattle.orm.proofs.Laws.Bounds.{bounds-paired}
use Rattle.orm.specs.Inside.{Inside}

pub own-bounds : (d : Diagram) → Inside d (lower d) (upper d)
own-bounds d = record { lower_≼ = ≼_refl _; ≼_upper = ≼_refl _ }

-- `verdict_from d low high` is `run (limits d) low high`
pub inside-laws : {d : Diagram} {low high : List ℕ} → Inside d low high → RunLaws (limits d) low high
inside-laws {d} i = run-laws (limits d) _ _ (sym i.lower_≼.sized ∙ bounds-paired d ∙ sym i.≼_upper.sized)

pub verdict-laws : (d : Diagram) → RunLaws (limits d) (lower d) (upper d)
verdict-laws d = inside-laws (own-bounds d)

-- Rounds, emptied or settled, are at most so many
pub unsatisfiable-within : (d : Diagram) {s n : ℕ} → verdict d ≡ unsatisfiable s n → n ≤ most_rounds d
unfolding verdict_from most_rounds
unsatisfiable-within d e = omega (arith, ((verdict-laws d).at_unsatisfiable e).bounded)

pub fixpoint-within : (d : Diagram) {n : ℕ} {c : List ℕ} → verdict d ≡ fixpoint n c → n ≤ most_rounds d
unfolding verdict_from most_rounds
fixpoint-within d e = omega (arith, ((verdict-laws d).at_fixpoint e).bounded)
