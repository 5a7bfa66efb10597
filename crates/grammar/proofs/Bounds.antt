-- The ranges and the numbers of a line from a field on decide as all do.
use Rattle.std.specs.Prelude.{ℕ, zero, suc, ◌+◌, ◌≤◌, ◌<◌, ◌≡◌, refl, Bool, true, false, not, ◌&&◌, List, [], ◌∷◌, length, get_or, drop}
use Rattle.std.proofs.Common.{arith, add-one, sym, ◌∙◌, drop_of_length-le}
use Rattle.std.proofs.lemmas.Bool.{not-true}
use Rattle.orm.specs.Form.{Range, unlimited, in_range, in_ranges}

-- the first of them, and the others
one : (rs : List Range) (v : List ℕ) (i : ℕ) → i < length v
    → in_ranges (drop i rs) (drop i v) ≡ (in_range (get_or rs i unlimited) (get_or v i 0) && in_ranges (drop (suc i) rs) (drop (suc i) v))
unfolding in_ranges in_range
one rs [] i h = absurd (omega arith)
one [] (x ∷ v) zero h = refl
one [] (x ∷ v) (suc i) h = refl
one (r ∷ rs) (x ∷ v) zero h = refl
one (r ∷ rs) (x ∷ v) (suc i) h = one rs v i (omega arith)

nothing_left : (rs : List Range) → in_ranges rs [] ≡ true
unfolding in_ranges
nothing_left [] = refl
nothing_left (r ∷ rs) = refl

module _ (rs : List Range) (v : List ℕ) (i : ℕ) {whole : Bool} (w : in_ranges (drop i rs) (drop i v) ≡ whole) where
  module _ (h : i < length v) {b : Bool} (e : b ≡ in_range (get_or rs i unlimited) (get_or v i 0)) where
    pub ranges_more : b ≡ true → in_ranges (drop (i + 1) rs) (drop (i + 1) v) ≡ whole
    ranges_more q = rw add-one (rw (one rs v i h, ← e, q) at w)

    pub ranges_out : not b ≡ true → false ≡ whole
    ranges_out q = rw (one rs v i h, ← e, not-true b q) at w

  pub ranges_end : length v ≤ i → true ≡ whole
  ranges_end h = sym (nothing_left (drop i rs)) ∙ (rw (drop_of_length-le v h) at w)
