-- Numbers with the same remainder.
use Rattle.std.specs.Prelude.{ℕ, ◌+◌, ◌*◌, ◌-◌, ◌/◌, ◌%◌, ◌≡◌}
use Rattle.std.specs.Int.{◌∣◌}
use Rattle.std.proofs.Common.{sym, ◌∙◌, ap, add-zero, arith}
use Rattle.std.proofs.Math.Nat.{dvd-sub, dvd-mul_right, div-add-mod, add-mod-mod, mod-add-mod, mod-mod_of_dvd, mod-eq-zero_of_dvd}
use Rattle.pairing.specs.Pairing.{lcm}
use Rattle.pairing.proofs.Laws.Gcd.{lcm_is_lcm}

-- One of the differences `i - j` and `j - i` is 0, and `n` divides both
dvd_sub-of_mod_eq : (n i j : ℕ) → i % n ≡ j % n → n ∣ i - j
dvd_sub-of_mod_eq n i j e =
    let d : n * (i / n) - n * (j / n) ≡ i - j = omega (arith, div-add-mod i n, div-add-mod j n) in
    rw d at (dvd-sub n (dvd-mul_right n (i / n)) (dvd-mul_right n (j / n)))

add_mod_of_dvd : (n a b : ℕ) → n ∣ b → (a + b) % n ≡ a % n
add_mod_of_dvd n a b h = rw (← add-mod-mod a b n, mod-eq-zero_of_dvd n h, add-zero)

mod_eq_of_dvd_sub : (n i j : ℕ) → n ∣ i - j → n ∣ j - i → i % n ≡ j % n
mod_eq_of_dvd_sub n i j p q =
    let e : i + (j - i) ≡ j + (i - j) = omega arith in
    sym (add_mod_of_dvd n i (j - i) q) ∙ ap (◌% n) e ∙ add_mod_of_dvd n j (i - j) p

pub mod_eq_of_dvd : (c n i j : ℕ) → c ∣ n → i % n ≡ j % n → i % c ≡ j % c
mod_eq_of_dvd c n i j h e = cc (mod-mod_of_dvd c i h, mod-mod_of_dvd c j h)

pub mod_eq_lcm : (s t i j : ℕ) → i % s ≡ j % s → i % t ≡ j % t → i % lcm s t ≡ j % lcm s t
mod_eq_lcm s t i j p q = mod_eq_of_dvd_sub (lcm s t) i j (both i j p q) (both j i (sym p) (sym q))
  where
    both : (k l : ℕ) → k % s ≡ l % s → k % t ≡ l % t → lcm s t ∣ k - l
    both k l e f = (lcm_is_lcm s t).least (k - l) (dvd_sub-of_mod_eq s k l e) (dvd_sub-of_mod_eq t k l f)

pub add-right_mod : (n a i j : ℕ) → i % n ≡ j % n → (i + a) % n ≡ (j + a) % n
add-right_mod n a i j e = cc (mod-add-mod i n a, mod-add-mod j n a)

pub add-right_mod_cancel : (n a i j : ℕ) → (i + a) % n ≡ (j + a) % n → i % n ≡ j % n
add-right_mod_cancel n a i j e = mod_eq_of_dvd_sub n i j (down i j e) (down j i (sym e))
  where
    down : (k l : ℕ) → (k + a) % n ≡ (l + a) % n → n ∣ k - l
    down k l h =
        let d : k + a - (l + a) ≡ k - l = omega arith in
        rw d at (dvd_sub-of_mod_eq n (k + a) (l + a) h)
