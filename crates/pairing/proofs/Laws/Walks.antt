-- Functions that walk round the numbers below `t` take equally many indices to each of them.
use Prim.Native.Nat.{ℕ, zero, suc, ◌+◌, ◌*◌, ◌-◌, ◌/◌, ◌%◌, ◌<◌}
use Rattle.std.specs.Prelude.{◌≡◌}
use Rattle.std.proofs.Common.{sym, ap, ◌∙◌, subst, suc-mul, div-mul-le_self, div-add-mod', mod-lt, mod-eq_of_lt, add-one, arith, eq-eqb, ne_eqb}
use Rattle.std.proofs.Math.Nat.{zero-mul, lt-div-mul-add, mod-add-mod, add-mod-mod, add-mod_right}
use Rattle.std.proofs.Math.Dec.{eqb}
use Rattle.counting.specs.Totals.{count_below}
use Rattle.counting.proofs.Laws.Count.{count_add, count_mono, count_ext, Once, count-once}
use Rattle.pairing.specs.Notions.{hits, EvenShare, Walk}
use Rattle.pairing.proofs.Laws.Mod.{add-right_mod_cancel}

module _ (t : ℕ) (f : ℕ → ℕ) (y : ℕ) (round : (q : ℕ) → hits t (λ i. f (q * t + i)) y ≡ 1) where
  count-rounds : (q : ℕ) → hits (q * t) f y ≡ q
  unfolding count_below
  count-rounds zero = rw zero-mul
  count-rounds (suc q) = rw (suc-mul, count_add (λ i. eqb y (f i)) (q * t) t, count-rounds q, round q, add-one)

  -- between the whole rounds below `n` and those that reach `n`
  rounds-even : (n : ℕ) → 0 < t → EvenShare n t (hits n f y)
  rounds-even n h = record {
    at_least = rw (count-rounds (n / t)) at (count_mono (λ i. eqb y (f i)) (n / t * t) n (div-mul-le_self n t));
    at_most =
        rw (count-rounds ((n + t - 1) / t)) at
        (count_mono (λ i. eqb y (f i)) n ((n + t - 1) / t * t) (omega (arith, lt-div-mul-add {a = n + t - 1} h)));
  }

-- A turn by `c` goes to `y` once
pub once_turned : (t c y : ℕ) → y < t → Once t (λ i. eqb y ((i + c) % t))
once_turned t c y h =
    let t⁺ : 0 < t = omega arith in
    let back = y + (t - c % t) in
    let p = back % t in
    let e : back + c % t ≡ y + t = omega (arith, mod-lt c t⁺) in
    let hit : y ≡ (p + c) % t = sym (rw (mod-add-mod, ← add-mod-mod back c t, e, add-mod_right y t) (mod-eq_of_lt h)) in
    let place⁺ : p < t = mod-lt back t⁺ in
    let only : (i : ℕ) → i < t → y ≡ (i + c) % t → i ≡ p =
    λ i l r. cc (mod-eq_of_lt l, add-right_mod_cancel t c i p (sym r ∙ hit), mod-eq_of_lt place⁺) in
    record { place = p; below = place⁺; hit = eq-eqb y _ hit; only = λ i l n. ne_eqb y _ (λ r. n (only i l r)) }

pub walk-even : (t : ℕ) (f : ℕ → ℕ) (n y : ℕ) → Walk t f → y < t → EvenShare n t (hits n f y)
walk-even t f n y w h = rounds-even t f y round n (omega arith)
  where
    round : (q : ℕ) → hits t (λ i. f (q * t + i)) y ≡ 1
    round q = count_ext _ _ t (λ i l. ap (eqb y) (w.step q i l)) ∙ count-once t _ (once_turned t (w.start q) y h)

pub walk_lt : (t : ℕ) (f : ℕ → ℕ) (i : ℕ) → Walk t f → 0 < t → f i < t
walk_lt t f i w h = subst (λ (x : ℕ). f x < t) (div-add-mod' i t) (rw (w.step (i / t) (i % t) (mod-lt i h)) (mod-lt _ h))
