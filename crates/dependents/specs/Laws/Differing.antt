-- The sets at which two lists of sizes differ: none is past their ends, and there are none where the lists are the same.
use Rattle.std.specs.Prelude.{ℕ, zero, suc, ◌+◌, ◌≤◌, ◌<◌, ◌≡◌, refl, Bool, true, false, not, ◌&&◌, List, [], ◌∷◌, ◌++◌, eqb, length, get_or, slice_index, take}
use Rattle.std.proofs.Math.Nat.{suc_inj}
use mathlib.Core.List.{append-nil, append_assoc}
use Rattle.std.proofs.Common.{arith, ap, sym, ◌∙◌, eq-eqb, ne_eqb, eqb-true}
use Rattle.counting.specs.Lists.{when, same}
use Rattle.dependents.specs.Dependents.{differing}

pub differing-below : (i : ℕ) (c c' : List ℕ) (k : ℕ) → k < length (differing i c c') → get_or (differing i c c') k 0 < i + length c'
unfolding differing
differing-below i [] c' k h = absurd (omega arith)
differing-below i (x ∷ c) [] k h = absurd (omega arith)
differing-below i (x ∷ c) (y ∷ c') k h = go (not (eqb x y)) k (differing-below (suc i) c c') h
  where
    go : (b : Bool) (j : ℕ)
        → ((m : ℕ) → m < length (differing (suc i) c c') → get_or (differing (suc i) c c') m 0 < suc i + length c')
        → j < length (when b i ++ differing (suc i) c c') → get_or (when b i ++ differing (suc i) c c') j 0 < i + suc (length c')
    go true zero rec l = omega arith
    go true (suc j) rec l = omega (arith, rec j (omega arith))
    go false j rec l = omega (arith, rec j l)

pub differing-long : (i : ℕ) (c c' : List ℕ) → length (differing i c c') ≤ length c'
unfolding differing
differing-long i [] c' = omega arith
differing-long i (x ∷ c) [] = omega arith
differing-long i (x ∷ c) (y ∷ c') = go (not (eqb x y)) (differing-long (suc i) c c')
  where
    go : (b : Bool) → length (differing (suc i) c c') ≤ length c' → length (when b i ++ differing (suc i) c c') ≤ suc (length c')
    go true h = omega arith
    go false h = omega arith

pub none_differ : (i : ℕ) (c c' : List ℕ) → length c ≡ length c' → eqb 0 (length (differing i c c')) ≡ same c' c
unfolding differing same
none_differ i [] [] e = eq-eqb 0 0 refl
none_differ i [] (y ∷ c') e = absurd (omega arith)
none_differ i (x ∷ c) [] e = absurd (omega arith)
none_differ i (x ∷ c) (y ∷ c') e = go (eqb x y) refl (none_differ (suc i) c c' (let k : length c ≡ length c' = omega arith in k))
  where
    go : (b : Bool) → eqb x y ≡ b → eqb 0 (length (differing (suc i) c c')) ≡ same c' c
        → eqb 0 (length (when (not b) i ++ differing (suc i) c c')) ≡ (eqb y x && same c' c)
    go true q h = rw (eq-eqb y x (sym (eqb-true x y q))) h
    go false q h = rw (ne_eqb y x (λ z. apart (sym z) q)) (ne_eqb 0 (suc (length (differing (suc i) c c'))) (λ z. omega arith))
      where
        apart : x ≡ y → eqb x y ≡ false → ⊥
        apart p r = let t : ◌≡◌ {A = Bool} true false = sym (eq-eqb x y p) ∙ r in let z : ◌≡◌ {A = ℕ} 0 1 = cc in absurd (omega arith)

-- One set more
pub differing_more : (i k : ℕ) (c c' : List ℕ) → k < length c → k < length c'
    → differing i (take (suc k) c) (take (suc k) c') ≡ differing i (take k c) (take k c') ++ when (not (eqb (slice_index c k) (slice_index c' k))) (i + k)
unfolding differing
differing_more i k [] c' h h' = absurd (omega arith)
differing_more i k (x ∷ c) [] h h' = absurd (omega arith)
differing_more i zero (x ∷ c) (y ∷ c') h h' =
    let e : i ≡ i + 0 = omega arith in
    append-nil (when (not (eqb x y)) i) ∙ ap (when (not (eqb x y))) e
differing_more i (suc k) (x ∷ c) (y ∷ c') h h' =
    let e : suc i + k ≡ i + suc k = omega arith in
    let b : Bool = not (eqb (slice_index c k) (slice_index c' k)) in
    ap (λ ss. when (not (eqb x y)) i ++ ss)
    (differing_more (suc i) k c c' (omega arith) (omega arith) ∙ ap (λ j. differing (suc i) (take k c) (take k c') ++ when b j) e)
    ∙ sym (append_assoc (when (not (eqb x y)) i) (differing (suc i) (take k c) (take k c')) (when b (i + suc k)))

-- A set at which the lists differ is listed
pub record Listed (c c' : List ℕ) (s : ℕ) : Type 0 where
  pub place : ℕ
  pub within : place < length (differing 0 c c')
  pub is : get_or (differing 0 c c') place 0 ≡ s

place_in : (i s : ℕ) (c c' : List ℕ) → length c ≡ length c' → (get_or c s 0 ≡ get_or c' s 0 → ⊥)
    → (k : ℕ) × (k < length (differing i c c')) × (get_or (differing i c c') k 0 ≡ i + s)
unfolding differing
place_in i s [] [] e n = absurd (n refl)
place_in i s [] (y ∷ c') e n = absurd (omega arith)
place_in i s (x ∷ c) [] e n = absurd (omega arith)
place_in i zero (x ∷ c) (y ∷ c') e n = rw (ne_eqb x y n) (0, omega arith, omega arith)
place_in i (suc s) (x ∷ c) (y ∷ c') e n = go (not (eqb x y)) (place_in (suc i) s c c' (suc_inj e) n)
  where
    go : (b : Bool) → (k : ℕ) × (k < length (differing (suc i) c c')) × (get_or (differing (suc i) c c') k 0 ≡ suc i + s)
        → (k : ℕ) × (k < length (when b i ++ differing (suc i) c c')) × (get_or (when b i ++ differing (suc i) c c') k 0 ≡ i + suc s)
    go true (k, h, z) = (suc k, omega arith, omega arith)
    go false (k, h, z) = (k, h, omega arith)

pub differing-lists : (c c' : List ℕ) → length c' ≡ length c → (s : ℕ) → (get_or c s 0 ≡ get_or c' s 0 → ⊥) → Listed c c' s
differing-lists c c' e s n = go (place_in 0 s c c' (sym e) n)
  where
    go : (k : ℕ) × (k < length (differing 0 c c')) × (get_or (differing 0 c c') k 0 ≡ 0 + s) → Listed c c' s
    go (k, h, z) = record { place = k; within = h; is = omega arith }
