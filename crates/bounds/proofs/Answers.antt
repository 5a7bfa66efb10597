-- How the check ends: the end of the rounds as an answer, and the buffer that it leaves.
use Prim.Native.Nat.{ℕ, ◌+◌, ◌≤◌, ◌<◌}
use native.Mathlib.Nat.{lt_of_not-le}
use native.Mathlib.Numerals.{add-one}
use native.Mathlib.Omega.{arith}
use mathlib.Core.Path.{◌≡◌, refl, sym, ap, ◌∙◌}
use mathlib.Core.List.{List, ◌++◌}
use lib.ListN.{length, drop, get_or, get_or-eq_default}
use mir.Syntax.{w64}
use mir.Val.{Fits}
use Rattle.fixpoint.specs.Limits.{Limit, Verdict, unsatisfiable, fixpoint, run, upper_after}
use Rattle.fixpoint.proofs.Laws.{run-laws}
use Rattle.orm.specs.Outcome.{Outcome, refused, accepted, ◌>>=◌, buffer_after, Sized, written}
use Rattle.std.specs.Prelude.{Result, Ok, Err}
use Rattle.rounds.specs.declared.Emptied.{Emptied as Ended}
use Rattle.rounds.specs.Answer.{outcome_of, rounds_of, Bounds}
use Rattle.lowering.specs.Coded.{limits_of}
use Rattle.lowering.specs.declared.Limits.{Limits}
use Rattle.orm.specs.Calls.{sizes_by, settled_into}
use Rattle.reading.specs.Laws.{fits, does_not-fit}
use Rattle.bounds.specs.Answer.{Answered, unchanged}
use Rattle.refusals.specs.declared.Refusal.{Refusal}
use Rattle.refusals.specs.declared.Refusal.TheVariants.{Emptied, TooShort}
use Rattle.bounds.specs.declared.Written.{Written}

-- ---- the sizes in the buffer

module _ (rounds : ℕ) (result sizes : List ℕ) where
  rest : Outcome (List ℕ) → Outcome Sized
  rest o = o >>= λ w. accepted (record { rounds = rounds; result = w })

  too_short : length sizes < length result → settled_into 7 unchanged (fixpoint rounds result) (length sizes) ≡ refused 8 (length result) 0
  unfolding settled_into sizes_by rest
  too_short h = ap rest (does_not-fit (length sizes) result h)

  long-enough : length result ≤ length sizes
      → settled_into 7 unchanged (fixpoint rounds result) (length sizes) ≡ accepted (record { rounds = rounds; result = result })
  unfolding settled_into sizes_by rest
  long-enough h = ap rest (fits (length sizes) result h)

  pub fit-short : length sizes < length result
      → Answered (settled_into 7 unchanged (fixpoint rounds result) (length sizes)) (Err (TooShort (length result))) sizes sizes
  unfolding written buffer_after
  fit-short h = rw (too_short h) (record { handed = refl; buffer = refl })

  pub fit-whole : {front : List ℕ} → length result ≤ length sizes → front ≡ result
      → Answered (settled_into 7 unchanged (fixpoint rounds result) (length sizes)) (Ok (record { length = length result; rounds = rounds })) sizes
      (front ++ drop (length result) sizes)
  unfolding written buffer_after
  fit-whole h w = rw (long-enough h) (record { handed = refl; buffer = ap (λ (xs : List ℕ). xs ++ drop (length result) sizes) w })

-- ---- the outcome of the rounds

unsatisfiable-of : (v : Verdict) {r : Result ℕ Ended} {e : Ended} → r ≡ Err e → r ≡ outcome_of v → v ≡ unsatisfiable e.set e.round
unsatisfiable-of (unsatisfiable s m) p e = cc
unsatisfiable-of (fixpoint m c) p e = let z : ◌≡◌ {A = ℕ} 0 1 = cc in absurd (omega arith)

fixpoint-of : (v : Verdict) {r : Result ℕ Ended} {n : ℕ} → r ≡ Ok n → r ≡ outcome_of v → (c : List ℕ) × (v ≡ fixpoint n c)
fixpoint-of (unsatisfiable s m) p e = let z : ◌≡◌ {A = ℕ} 0 1 = cc in absurd (omega arith)
fixpoint-of (fixpoint m c) p e = (c, cc)

in_range_lem : (xs : List ℕ) (i : ℕ) → 0 < get_or xs i 0 → i < length xs
in_range_lem xs i h = lt_of_not-le λ k. omega (arith, get_or-eq_default xs 0 {n = i} k)

-- the set of an unsatisfiable end is one of the sets
pub set-fits : (l : Limits) (low up : List ℕ) {r : Result ℕ Ended} {x : Ended} → Bounds l low up → r ≡ Err x → r ≡ outcome_of (run (limits_of l) low up)
    → Fits w64 (x.set + 1)
set-fits l low up {x = x} b p e =
    let ls : List Limit = limits_of l in
    let below : get_or (upper_after ls up x.round) x.set 0 < get_or low x.set 0 =
    ((run-laws ls low up b.paired).at_unsatisfiable (unsatisfiable-of (run ls low up) p e)).first.below in
    record { fits = omega (arith, in_range_lem low x.set (omega arith), b.paired, b.few) }

module _ (v : Verdict) {r : Result ℕ Ended} (e : r ≡ outcome_of v) where
  pub answer-unsatisfiable : {x : Ended} (b : List ℕ) → r ≡ Err x → Answered (settled_into 7 unchanged v (length b)) (Err (Emptied (x.set + 1) x.round)) b b
  unfolding settled_into sizes_by written buffer_after
  answer-unsatisfiable b p = rw (unsatisfiable-of v p e) (record { handed = rw add-one; buffer = refl })

-- the upper bounds that stand after a fixpoint's rounds are the fixpoint
pub answer-fixpoint : (l : Limits) (low up b : List ℕ) {r : Result ℕ Ended} {n : ℕ} {u b' : List ℕ} {a : Result Written Refusal} → r ≡ outcome_of (run (limits_of l) low up)
    → r ≡ Ok n → u ≡ upper_after (limits_of l) up (rounds_of (run (limits_of l) low up)) → Bounds l low up
    → Answered (settled_into 7 unchanged (fixpoint n u) (length b)) a b b' → Answered (settled_into 7 unchanged (run (limits_of l) low up) (length b)) a b b'
answer-fixpoint l low up b {n = n} {u = u} {b' = b'} {a = a} e p eu bounds w = go (fixpoint-of (run (limits_of l) low up) p e)
  where
    go : (c : List ℕ) × (run (limits_of l) low up ≡ fixpoint n c) → Answered (settled_into 7 unchanged (run (limits_of l) low up) (length b)) a b b'
    go (c, v) =
        let stands : c ≡ upper_after (limits_of l) up n = ((run-laws (limits_of l) low up bounds.paired).at_fixpoint v).stands in
        let is : u ≡ c = eu ∙ ap (λ (x : Verdict). upper_after (limits_of l) up (rounds_of x)) v ∙ sym stands in
        rw (v, ← is) w
