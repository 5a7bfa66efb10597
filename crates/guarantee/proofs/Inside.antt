-- The rounds from bounds inside the diagram's own find out whether a valid population has sizes between them, and the greatest sizes of one that has.
-- Demand 3 is this theorem at the diagram's own bounds, which every valid population is between.
use Rattle.std.specs.Prelude.{ℕ, ◌≡◌, refl, List}
use Rattle.fixpoint.specs.Limits.{Verdict, unsatisfiable, fixpoint}
use Rattle.orm.specs.Diagram.{Diagram}
use Rattle.orm.specs.Sets.{verdict_from}
use Rattle.orm.specs.WellFormed.{WellFormed}
use Rattle.orm.proofs.Laws.Rounds.{inside-laws}
use Rattle.orm.specs.Inside.{Inside}
use Rattle.sound.proofs.Laws.{valid-laws}
use Rattle.complete.proofs.Laws.{population-laws, fixpoint-solved}
use Rattle.guarantee.specs.Inside.{NoneFits, GreatestPopulation}

module _ {d : Diagram} {low high : List ℕ} (form : WellFormed d) (i : Inside d low high) where
  pub emptied-none : {s n : ℕ} → verdict_from d low high ≡ unsatisfiable s n → NoneFits d low high
  emptied-none e s o f = (valid-laws d form s o).satisfiable i f.above f.under e

  pub settled-greatest : {n : ℕ} {c : List ℕ} → verdict_from d low high ≡ fixpoint n c → GreatestPopulation d low high c
  unfolding verdict_from
  settled-greatest {n} {c} e =
      let (above, g) = ((inside-laws i).fixpoint_iff c).0 (n, e) in
      record {
        made = population-laws d c (fixpoint-solved form i e);
        fits = record { above = above; under = g.solution.under };
        greatest = λ s o f. (valid-laws d form s o).under_fixpoint i f.under e;
      }

  pub none-emptied : NoneFits d low high → (s : ℕ) × (n : ℕ) × (verdict_from d low high ≡ unsatisfiable s n)
  none-emptied none = go (verdict_from d low high) refl
    where
      go : (v : Verdict) → verdict_from d low high ≡ v → (s : ℕ) × (n : ℕ) × (verdict_from d low high ≡ unsatisfiable s n)
      go (unsatisfiable s n) e = (s, n, e)
      go (fixpoint n c) e =
          let g = settled-greatest e in
          absurd (none _ g.made.valid (rw g.made.exact g.fits))

  pub some-settled : ¬ NoneFits d low high → (n : ℕ) × (c : List ℕ) × (verdict_from d low high ≡ fixpoint n c)
  some-settled some = go (verdict_from d low high) refl
    where
      go : (v : Verdict) → verdict_from d low high ≡ v → (n : ℕ) × (c : List ℕ) × (verdict_from d low high ≡ fixpoint n c)
      go (unsatisfiable s n) e = absurd (some (emptied-none e))
      go (fixpoint n c) e = (n, c, e)
