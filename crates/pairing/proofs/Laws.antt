-- The laws of the pairing (document 000, 4.3, with document 01's shift): pairs and tuples differ, and each set's members are spread evenly over them.
pub mod Gcd
pub mod Mod
pub mod Walks
pub mod Pair
pub mod Digits
pub mod Prefix
pub mod Multiples
use Rattle.std.specs.Prelude.{ℕ, ◌*◌, ◌%◌, ◌≤◌, ◌<◌, ◌≡◌, List, length, get_or, eqb}
use Rattle.std.proofs.Common.{sym, ◌∙◌, ap, zero-lt-suc, le_refl, le_trans, lt_of_lt_of_le, one-mul, mod-eq_of_lt, le-div_iff_mul-le, arith}
use Rattle.std.proofs.Math.Nat.{mod-one, min-eq_left}
use Rattle.counting.specs.Terms.{Each}
use Rattle.counting.proofs.Laws.Members.{get_or_in}
use Rattle.counting.proofs.Laws.Count.{count_ext}
use Rattle.pairing.specs.Pairing.{Tuples, tuples, left_of, right_of}
use Rattle.pairing.specs.Notions.{hits, EvenShare, Walk, product, Fits, entry}
use Rattle.pairing.proofs.Laws.Walks.{walk_lt}
use Rattle.pairing.proofs.Laws.Pair.{left_of-walk, right_of-walk}
use Rattle.pairing.proofs.Laws.Digits.{digits-length, digits-walk, digits_inj}
use Rattle.pairing.proofs.Laws.Prefix.{Starts, tuples-starts}
pub use Rattle.pairing.proofs.Laws.Gcd.{gcd_is_gcd, gcd_within-enough, gcd-pos, lcm_is_lcm, lcm-pos, gcd_mul_lcm}
pub use Rattle.pairing.proofs.Laws.Walks.{walk-even, once_turned}
pub use Rattle.pairing.proofs.Laws.Pair.{pair_inj}
unfoldable pub use Rattle.pairing.proofs.Laws.Digits.{digit, digits}

-- ---- pairs

pub left-even : (s n y : ℕ) → y < s → EvenShare n s (hits n (left_of s) y)
left-even s n y h = walk-even s (left_of s) n y (left_of-walk s) h

pub right-even : (s t n y : ℕ) → y < t → EvenShare n t (hits n (right_of s t) y)
right-even s t n y h = walk-even t (right_of s t) n y (right_of-walk s t) h

-- ---- tuples

module _ (want : ℕ) (sizes : List ℕ) (fits : Fits want sizes) where
  starts : Starts want (product sizes) (tuples want sizes) (digits 1 sizes)
  starts = tuples-starts want sizes fits.some fits.positive fits.small

  walk : (k : ℕ) → k < length sizes → Walk (get_or sizes k 0) (λ i. get_or (digits 1 sizes i) k 0)
  walk k l = digits-walk 1 sizes k (zero-lt-suc 0) fits.positive l

  pub tuples-count : (tuples want sizes).count ≡ want
  tuples-count = starts.count ∙ min-eq_left fits.enough

  -- A row in closed form
  pub tuples-row : (i : ℕ) → i < want → (tuples want sizes).row i ≡ digits 1 sizes i
  tuples-row i h = starts.rows i (omega (arith, fits.enough))

  pub tuples-differ : (i j : ℕ) → i < want → j < want → (tuples want sizes).row i ≡ (tuples want sizes).row j → i ≡ j
  tuples-differ i j hi hj e =
      let same =
      digits_inj 1 sizes i j (zero-lt-suc 0) fits.positive (mod-one i ∙ sym (mod-one j)) (sym (tuples-row i hi) ∙ e ∙ tuples-row j hj) in
      let whole : (k : ℕ) → k < want → k % (1 * product sizes) ≡ k = λ k h. rw one-mul (mod-eq_of_lt (lt_of_lt_of_le h fits.enough)) in
      sym (whole i hi) ∙ same ∙ whole j hj

  pub tuples-length : (i : ℕ) → i < want → length ((tuples want sizes).row i) ≡ length sizes
  tuples-length i h = ap length (tuples-row i h) ∙ digits-length 1 sizes i

  pub tuples-below : (k i : ℕ) → k < length sizes → i < want → entry (tuples want sizes) k i < get_or sizes k 0
  tuples-below k i l h = rw (tuples-row i h) (walk_lt _ _ i (walk k l) (fits.positive _ (get_or_in sizes k 0 l)))

  -- Also among the first `n` tuples alone
  pub tuples-even : (k n y : ℕ) → k < length sizes → n ≤ want → y < get_or sizes k 0
      → EvenShare n (get_or sizes k 0) (hits n (entry (tuples want sizes) k) y)
  tuples-even k n y l h b =
      let same =
      count_ext (λ i. eqb y (entry (tuples want sizes) k i)) (λ i. eqb y (get_or (digits 1 sizes i) k 0)) n
      (λ i m. ap (λ (r : List ℕ). eqb y (get_or r k 0)) (tuples-row i (lt_of_lt_of_le m h))) in
      rw same (walk-even _ _ n y (walk k l) b)

  -- Each member is in some tuple: `count-pos` says in which
  pub tuples-cover : (k y : ℕ) → k < length sizes → y < get_or sizes k 0 → 0 < hits want (entry (tuples want sizes) k) y
  tuples-cover k y l b =
      let size⁺ = fits.positive _ (get_or_in sizes k 0 l) in
      le_trans ((le-div_iff_mul-le size⁺).1 (rw one-mul (fits.small _ (get_or_in sizes k 0 l)))) (tuples-even k want y l (le_refl want) b).at_least
