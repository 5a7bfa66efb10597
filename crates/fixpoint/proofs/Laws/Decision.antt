-- What the end of `run` says of the solutions and of the greatest of them.
use Rattle.std.specs.Prelude.{ℕ, ◌<◌, ◌≡◌, refl, ◌↔◌, ◌⊎◌, List, length, get_or}
use Rattle.std.proofs.Common.{subst, inl, inr, le_refl, arith}
use Rattle.fixpoint.specs.Limits.{Limit, Verdict, unsatisfiable, fixpoint, run}
use Rattle.fixpoint.specs.Notions.{◌≼◌, Solution, GreatestSolution, Fixpoint, EndsUnsatisfiable, EndsFixpoint}
use Rattle.fixpoint.proofs.Laws.Order.{greatest-unique}
use Rattle.fixpoint.proofs.Laws.Round.{upper_after-sound}
use Rattle.fixpoint.proofs.Laws.Run.{Ends, run_ends}

module _ (ls : List Limit) (lower start : List ℕ) (sized : length lower ≡ length start) where
  pub ends : {v : Verdict} → run ls lower start ≡ v → Ends ls lower start v
  ends e = subst (Ends ls lower start) e (run_ends ls lower start sized)

  either : EndsUnsatisfiable ls lower start ⊎ ((c : List ℕ) × EndsFixpoint ls lower start c)
  either = split (run ls lower start) refl
    where
      split : (v : Verdict) → run ls lower start ≡ v → EndsUnsatisfiable ls lower start ⊎ ((c : List ℕ) × EndsFixpoint ls lower start c)
      split (unsatisfiable s n) e = inl (s, n, e)
      split (fixpoint n c) e = inr (c, (n, e))

  -- Every solution is below its lower bound where the first upper bound is
  solution-below : (u : EndsUnsatisfiable ls lower start) {x : List ℕ} → Solution ls start x → get_or x u.0 0 < get_or lower u.0 0
  solution-below u {x} p = omega (arith, (upper_after-sound ls start x p u.1).entry u.0, (ends u.2).first.below)

  fixpoint-greatest : {c : List ℕ} → EndsFixpoint ls lower start c → (lower ≼ c) × GreatestSolution ls start c
  fixpoint-greatest {c} (n, e) =
      let f : Fixpoint ls lower start n c = ends e in
      (rw f.stands (f.above n (le_refl n)), record { solution = f.solution; greatest = λ x p. rw f.stands (upper_after-sound ls start x p n) })

  pub unsatisfiable_iff : EndsUnsatisfiable ls lower start ↔ ((x : List ℕ) → Solution ls start x → ¬ (lower ≼ x))
  unsatisfiable_iff = (
    λ u x p a. omega (arith, solution-below u p, a.entry u.0),
    λ h. elim either [ inl u ↦ u | inr f ↦ let g = fixpoint-greatest f.1 in absurd (h f.0 g.1.solution g.0) ],
  )

  pub fixpoint_iff : (c : List ℕ) → EndsFixpoint ls lower start c ↔ ((lower ≼ c) × GreatestSolution ls start c)
  fixpoint_iff c = (
    fixpoint-greatest,
    λ h. elim either [
      | inl u ↦ absurd (unsatisfiable_iff.0 u c h.1.solution h.0)
      | inr f ↦ rw
          (greatest-unique h.1 (fixpoint-greatest f.1).1) f.1
    ],
  )

  module _ {d : List ℕ} (g : GreatestSolution ls start d) where
    pub unsatisfiable-iff-below : EndsUnsatisfiable ls lower start ↔ ((i : ℕ) × (get_or d i 0 < get_or lower i 0))
    unsatisfiable-iff-below = (
      λ u. (u.0, solution-below u g.solution),
      λ b. unsatisfiable_iff.1 (λ x p a. omega (arith, b.1, a.entry b.0, (g.greatest x p).entry b.0)),
    )

    pub fixpoint-iff-above : (c : List ℕ) → EndsFixpoint ls lower start c ↔ ((c ≡ d) × (lower ≼ d))
    fixpoint-iff-above c = (
      λ f. let h = fixpoint-greatest f in let e = greatest-unique h.1 g in (e, rw e at h.0),
      λ h. (fixpoint_iff c).1 (rw h.0 (h.1, g)),
    )
