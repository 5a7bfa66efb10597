-- Bounds with one entry raised or capped are inside the diagram's own, and sizes are between them just where that entry is the wanted one.
use Rattle.std.specs.Prelude.{ℕ, ◌≤◌, ◌<◌, min, max, ◌↔◌, Bool, List, length}
use Rattle.std.proofs.Math.Path.{◌≡◌, refl, sym}
use Rattle.std.proofs.Common.{◌∙◌, get_or-set_other}
use Rattle.std.proofs.Math.Bool.{true, false}
use Rattle.std.proofs.Math.Nat.{le-min, max-le}
use Rattle.std.proofs.Math.Decide.{ℕ_discrete}
use native.Mathlib.Omega.{arith}
use Rattle.std.proofs.Math.ListN.{get_or, length-set}
use Rattle.std.proofs.Math.Seq.{get_or-set_same}
use Rattle.fixpoint.specs.Notions.{◌≼◌}
use Rattle.fixpoint.proofs.Laws.Order.{≼_refl}
use Rattle.orm.specs.Diagram.{Diagram, index}
use Rattle.orm.specs.Form.{◌to◌, in_range}
use Rattle.orm.specs.Sets.{set_count, lower, upper}
use Rattle.orm.specs.Outcome.{Outcome, refused, accepted}
use Rattle.orm.specs.Prescribe.{set_in, raised_at, capped_at}
use Rattle.orm.specs.Meaning.{Between}
use Rattle.orm.proofs.Laws.Bounds.{bounds-paired, upper-sets}
use Rattle.orm.proofs.Laws.Decided.{in_range_decides}
use Rattle.orm.specs.Inside.{Inside}

-- ---- a list with one entry raised or capped

module _ (l : List ℕ) (s wanted : ℕ) (h : s < length l) where
  raised-entry : (i v : ℕ) → (get_or (raised_at s wanted l) i 0 ≤ v) ↔ ((get_or l i 0 ≤ v) × (i ≡ s → wanted ≤ v))
  unfolding raised_at
  raised-entry i v = split (ℕ_discrete i s)
    where
      split : Dec (i ≡ s) → (get_or (raised_at s wanted l) i 0 ≤ v) ↔ ((get_or l i 0 ≤ v) × (i ≡ s → wanted ≤ v))
      split (yes e) = rw (e, get_or-set_same l s (max (get_or l s 0) wanted) 0 h) (λ q. (omega arith, λ _. omega arith), λ q. max-le q.0 (q.1 refl))
      split (no n) = rw (get_or-set_other l s i (max (get_or l s 0) wanted) 0 n) (λ q. (q, λ e. absurd (n e)), λ q. q.0)

  pub raised-iff : (x : List ℕ) → (raised_at s wanted l ≼ x) ↔ ((l ≼ x) × (wanted ≤ get_or x s 0))
  unfolding raised_at
  raised-iff x = (
    λ p. (
      record { sized = sym (length-set l s _) ∙ p.sized; entry = λ i. ((raised-entry i (get_or x i 0)).0 (p.entry i)).0 },
      ((raised-entry s (get_or x s 0)).0 (p.entry s)).1 refl,
    ),
    λ q. record {
      sized = length-set l s _ ∙ q.0.sized;
      entry = λ i. (raised-entry i (get_or x i 0)).1 (q.0.entry i, λ e. rw e q.1);
    },
  )

  capped_entry : (i v : ℕ) → (v ≤ get_or (capped_at s wanted l) i 0) ↔ ((v ≤ get_or l i 0) × (i ≡ s → v ≤ wanted))
  unfolding capped_at
  capped_entry i v = split (ℕ_discrete i s)
    where
      split : Dec (i ≡ s) → (v ≤ get_or (capped_at s wanted l) i 0) ↔ ((v ≤ get_or l i 0) × (i ≡ s → v ≤ wanted))
      split (yes e) = rw (e, get_or-set_same l s (min (get_or l s 0) wanted) 0 h) (λ q. (omega arith, λ _. omega arith), λ q. le-min q.0 (q.1 refl))
      split (no n) = rw (get_or-set_other l s i (min (get_or l s 0) wanted) 0 n) (λ q. (q, λ e. absurd (n e)), λ q. q.0)

  pub capped_iff : (x : List ℕ) → (x ≼ capped_at s wanted l) ↔ ((x ≼ l) × (get_or x s 0 ≤ wanted))
  unfolding capped_at
  capped_iff x = (
    λ p. (
      record { sized = p.sized ∙ length-set l s _; entry = λ i. ((capped_entry i (get_or x i 0)).0 (p.entry i)).0 },
      ((capped_entry s (get_or x s 0)).0 (p.entry s)).1 refl,
    ),
    λ q. record {
      sized = q.0.sized ∙ sym (length-set l s _);
      entry = λ i. (capped_entry i (get_or x i 0)).1 (q.0.entry i, λ e. rw e q.1);
    },
  )

-- ---- the bounds of a diagram

module _ (d : Diagram) (s wanted : ℕ) (h : s < set_count d) where
  abbrev low : List ℕ
  low = raised_at s wanted (lower d)

  abbrev high : List ℕ
  high = capped_at s wanted (upper d)

  pub above-raised : (x : List ℕ) → (low ≼ x) ↔ ((lower d ≼ x) × (wanted ≤ get_or x s 0))
  above-raised x = raised-iff (lower d) s wanted (omega (arith, bounds-paired d, upper-sets d)) x

  pub under_capped : (x : List ℕ) → (x ≼ high) ↔ ((x ≼ upper d) × (get_or x s 0 ≤ wanted))
  under_capped x = capped_iff (upper d) s wanted (omega (arith, upper-sets d)) x

  pub prescribed-inside : Inside d low high
  prescribed-inside = record { lower_≼ = ((above-raised low).0 (≼_refl _)).0; ≼_upper = ((under_capped high).0 (≼_refl _)).0 }

-- ---- the number of a set

module _ (d : Diagram) (number : ℕ) where
  pub is_set : Between 1 number (set_count d) → set_in d number ≡ accepted (index number)
  unfolding set_in
  is_set h = rw ((in_range_decides 1 number (set_count d)).1 h, set_in) refl

  pub no_set : ¬ Between 1 number (set_count d) → set_in d number ≡ refused 10 number 0
  unfolding set_in
  no_set n = go (in_range (1 to set_count d) number) refl
    where
      go : (b : Bool) → in_range (1 to set_count d) number ≡ b
          → ◌≡◌ {A = Outcome ℕ} (elim b [ true ↦ accepted (index number) | false ↦ refused 10 number 0 ]) (refused 10 number 0)
      go true q = absurd (n ((in_range_decides 1 number (set_count d)).0 q))
      go false q = refl
