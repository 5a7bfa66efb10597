-- The pairs of two sets all differ, and each side walks round its set.
use Rattle.std.specs.Prelude.{ℕ, ◌+◌, ◌*◌, ◌/◌, ◌%◌, ◌<◌, ◌≡◌}
use Rattle.std.proofs.Common.{◌∙◌, add-zero, add_assoc, add_comm, mod-eq_of_lt, div-lt_iff_lt-mul, lt_of_lt_of_le, arith}
use Rattle.std.proofs.Math.Nat.{mod-add-div, mul-add-mod_self_right, mul-div_cancel', div-div-eq-div-mul, div-eq_of_lt, le_of_dvd, pos_of_dvd_of_pos, dvd-mul_left, dvd-mul_right}
use Rattle.std.proofs.Math.Arith.{digits_div}
use Rattle.pairing.specs.Pairing.{gcd, lcm, left_of, right_of}
use Rattle.pairing.proofs.Laws.Gcd.{gcd_is_gcd, lcm_is_lcm, gcd_mul_lcm, lcm-pos}
use Rattle.pairing.proofs.Laws.Mod.{mod_eq_of_dvd, mod_eq_lcm, add-right_mod, add-right_mod_cancel}
use Rattle.pairing.specs.Notions.{Walk}

eq_of_mod_div : (n i j : ℕ) → i % n ≡ j % n → i / n ≡ j / n → i ≡ j
eq_of_mod_div n i j p q = cc (mod-add-div i n, mod-add-div j n)

shift-below : (s t i : ℕ) → i < s * t → i / lcm s t < gcd s t
shift-below s t i h =
    let pos : 0 < s * t = omega arith in
    let lcm⁺ = lcm-pos s t (pos_of_dvd_of_pos (dvd-mul_right s t) pos) (pos_of_dvd_of_pos (dvd-mul_left t s) pos) in
    (div-lt_iff_lt-mul lcm⁺).1 (rw (gcd_mul_lcm s t) h)

-- The two shifts have the same remainder by the gcd and are below it, so they are equal. Then the indices have the same remainder by `t` too.
pub pair_inj : (s t i j : ℕ) → i < s * t → j < s * t → left_of s i ≡ left_of s j → right_of s t i ≡ right_of s t j → i ≡ j
unfolding left_of right_of
pair_inj s t i j hi hj left right =
    let g = gcd s t in
    let u = i / lcm s t in
    let v = j / lcm s t in
    let left-g : i % g ≡ j % g = mod_eq_of_dvd g s i j (gcd_is_gcd s t).left left in
    let right-g : (i + u) % g ≡ (j + v) % g = mod_eq_of_dvd g t (i + u) (j + v) (gcd_is_gcd s t).right right in
    let shifts-g : u % g ≡ v % g = add-right_mod_cancel g i u v (cc (add_comm u i, add_comm v i, add-right_mod g v i j left-g)) in
    let shifts : u ≡ v = cc (mod-eq_of_lt (shift-below s t i hi), mod-eq_of_lt (shift-below s t j hj)) in
    let right-t : i % t ≡ j % t = add-right_mod_cancel t u i j (cc) in
    eq_of_mod_div (lcm s t) i j (mod_eq_lcm s t i j left right-t) shifts

pub left_of-walk : (s : ℕ) → Walk s (left_of s)
unfolding left_of
left_of-walk s = record { start = λ q. 0; step = λ q i h. rw (mul-add-mod_self_right, add-zero) }

-- `t` divides the lcm, so the shift is the same in a whole round
pub right_of-walk : (s t : ℕ) → Walk t (right_of s t)
unfolding right_of
right_of-walk s t = record { start = λ q. q / m; step = λ q i h. rw (shift q i h, add_assoc, mul-add-mod_self_right) }
  where
    m : ℕ
    m = lcm s t / t

    shift : (q i : ℕ) → i < t → (q * t + i) / lcm s t ≡ q / m
    shift q i h = cc (mul-div_cancel' t (lcm_is_lcm s t).right, div-div-eq-div-mul (q * t + i) t m, digits_div q h)

-- No shift before the first common multiple
right_of_unshifted : (s t i : ℕ) → i < lcm s t → right_of s t i ≡ i % t
unfolding right_of
right_of_unshifted s t i h = rw (div-eq_of_lt h, add-zero)

pub right_of-below-left : (s t i : ℕ) → 0 < t → i < s → right_of s t i ≡ i % t
right_of-below-left s t i ht h = right_of_unshifted s t i (lt_of_lt_of_le h (le_of_dvd (lcm-pos s t (omega arith) ht) (lcm_is_lcm s t).left))

pub right_of-below-right : (s t i : ℕ) → 0 < s → i < t → right_of s t i ≡ i
right_of-below-right s t i hs h =
    right_of_unshifted s t i (lt_of_lt_of_le h (le_of_dvd (lcm-pos s t hs (omega arith)) (lcm_is_lcm s t).right)) ∙ mod-eq_of_lt h
