-- Single numbers: remainders and quotients, also by 0, the greatest common divisor, and products that fit.
use Prim.Native.Nat.{ℕ, zero, suc, ◌*◌, ◌/◌, ◌%◌, ◌≤◌, ◌<◌}
use native.Mathlib.Nat.{mod-lt, mul-le-mul, zero-lt-suc}
use native.Mathlib.Omega.{arith}
use mathlib.Core.Path.{◌≡◌, refl, sym, ap, ◌∙◌}
use mir.Syntax.{w32}
use mir.Val.{Fits}
use Rattle.pairing.specs.Pairing.{gcd_within, gcd, lcm}
use Rattle.pairing.proofs.Laws.{gcd_within-enough}

-- ---- Euclid's algorithm

pub gcd-next : (a b : ℕ) {g r : ℕ} → gcd a b ≡ g → 0 < b → r ≡ a % b → gcd b r ≡ g
gcd-next a zero e h er = absurd (omega arith)
gcd-next a (suc b) e h er =
    let step : gcd a (suc b) ≡ gcd_within (suc b) (suc b) (a % suc b) = unfold gcd gcd_within in refl in
    rw er (sym (step ∙ gcd_within-enough (suc b) (suc b) (a % suc b) (mod-lt a (zero-lt-suc b))) ∙ e)

pub gcd-end : (a b : ℕ) {g : ℕ} → gcd a b ≡ g → b ≤ 0 → a ≡ g
gcd-end a zero e h = let end : gcd a 0 ≡ a = unfold gcd gcd_within in refl in sym end ∙ e
gcd-end a (suc b) e h = absurd (omega arith)

pub gcd-falls : (a b : ℕ) {r : ℕ} → 0 < b → r ≡ a % b → r < b
gcd-falls a b h e = rw e (mod-lt a h)

pub lcm-is : (a b : ℕ) {g r : ℕ} → g ≡ gcd a b → r ≡ (a * b) / g → r ≡ lcm a b
unfolding lcm
lcm-is a b eg er = er ∙ ap (λ (n : ℕ). (a * b) / n) eg

-- ---- products

pub product-fits : (a b : ℕ) → a ≤ 4096 → b ≤ 4096 → Fits w32 (a * b)
product-fits a b h k = record { fits = omega (arith, mul-le-mul h k) }
