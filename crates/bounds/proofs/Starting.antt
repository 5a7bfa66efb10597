-- One bound raised or capped, and the bounds to start from.
use Prim.Native.Nat.{ℕ, ◌≤◌, ◌<◌, min, max}
use native.Mathlib.Omega.{arith}
use mathlib.Core.Path.{◌≡◌, refl, sym, ap, ◌∙◌}
use mathlib.Core.List.{List}
use lib.ListN.{length, get_or, set}
use lib.Seq.{set-get_or}
use Rattle.fixpoint.specs.Limits.{Limit, run}
use Rattle.orm.specs.Calls.{settled_into}
use Rattle.orm.specs.Prescribe.{raised_at, capped_at}
use Rattle.lowering.specs.declared.Limits.{Limits}
use Rattle.rounds.specs.Answer.{Bounds}
use Rattle.bounds.specs.Start.{lower_by, upper_by, Starts, Narrowed}
use Rattle.bounds.specs.Answer.{Answered, unchanged}
use Rattle.bounds.specs.Laws.Starts.{length-lower-by, length-upper-by}
use Rattle.std.specs.Prelude.{Result}
use Rattle.refusals.specs.declared.Refusal.{Refusal}
use Rattle.bounds.specs.declared.Written.{Written}
use Rattle.bounds.specs.declared.Start.{Start}
use Rattle.bounds.specs.declared.Start.TheVariants.{Own, Kept}

-- ---- one bound

module _ (l : List ℕ) (s : ℕ) {size : ℕ} where
  pub raised-to : get_or l s 0 < size → set l s size ≡ raised_at s size l
  unfolding raised_at
  raised-to h = let m : size ≡ max (get_or l s 0) size = omega arith in ap (set l s) m

  pub raised-not : size ≤ get_or l s 0 → l ≡ raised_at s size l
  unfolding raised_at
  raised-not h = let m : get_or l s 0 ≡ max (get_or l s 0) size = omega arith in sym (set-get_or l s 0) ∙ ap (set l s) m

  pub capped_to : size < get_or l s 0 → set l s size ≡ capped_at s size l
  unfolding capped_at
  capped_to h = let m : size ≡ min (get_or l s 0) size = omega arith in ap (set l s) m

  pub capped_not : get_or l s 0 ≤ size → l ≡ capped_at s size l
  unfolding capped_at
  capped_not h = let m : get_or l s 0 ≡ min (get_or l s 0) size = omega arith in sym (set-get_or l s 0) ∙ ap (set l s) m

-- ---- all bounds

module _ {x : Start} {n : ℕ} (h : Starts x n) where
  pub kept-among : {s size : ℕ} → x ≡ Kept s size → s < n
  kept-among p = rw p at h.among

module _ {x : Start} (low high : List ℕ) where
  pub narrowed_own : x ≡ Own → Narrowed x low high low high
  narrowed_own p = rw p (record { lower_is = refl; upper_is = refl })

  pub narrowed_kept : {s size : ℕ} {low' high' : List ℕ} → x ≡ Kept s size → low' ≡ raised_at s size low → high' ≡ capped_at s size high
      → Narrowed x low high low' high'
  narrowed_kept p el eh = rw p (record { lower_is = el; upper_is = eh })

-- ---- what the rounds ask of them

module _ (x : Start) (low high : List ℕ) {l : Limits} (b : Bounds l (lower_by x low) (upper_by x high)) where
  pub starts-lower : Starts x (length high) → Starts x (length low)
  starts-lower h =
      let e : length high ≡ length low = sym (length-upper-by x high) ∙ sym b.paired ∙ length-lower-by x low in
      rw e at h

  pub narrowed_bounds : {low' high' : List ℕ} → Narrowed x low high low' high' → Bounds l low' high'
  narrowed_bounds n = rw (n.lower_is, n.upper_is) b

-- as many as before
pub narrowed_long : {x : Start} {low high low' high' : List ℕ} → Narrowed x low high low' high' → length high' ≡ length high
narrowed_long {x} {high = high} n = ap length n.upper_is ∙ length-upper-by x high

-- and the answer that they lead to
pub narrowed_answered : (x : Start) (low high : List ℕ) {low' high' : List ℕ} (ls : List Limit) (before : List ℕ) {after : List ℕ} {a : Result Written Refusal}
    → Narrowed x low high low' high' → Answered (settled_into 7 unchanged (run ls low' high') (length before)) a before after
    → Answered (settled_into 7 unchanged (run ls (lower_by x low) (upper_by x high)) (length before)) a before after
narrowed_answered x low high ls before n h = rw (← n.lower_is, ← n.upper_is) h
