-- How long printed lines are: a number of at most 6 digits takes at most 7 bytes with what follows it.
use Rattle.std.specs.Prelude.{ℕ, suc, ◌+◌, ◌*◌, ◌≤◌, ◌≡◌, refl}
use Prim.Native.String.{String}
use Rattle.std.proofs.Math.Nat.{mul-add, add-zero}
use Rattle.std.proofs.Common.{add-suc, suc-add}
use native.Mathlib.Omega.{arith}
use Rattle.std.proofs.Math.Path.{ap}
use mathlib.Core.List.{List, [], ◌∷◌, ◌++◌, flat_map, flatten}
use Rattle.std.proofs.Math.ListN.{length, length-append}
use Rattle.counting.specs.Lists.{map_from}
use Rattle.counting.specs.Terms.{Each}
use Rattle.counting.proofs.Laws.Members.{each-head, each_tail}
use Rattle.counting.specs.Index.{At, first, later}
use Rattle.orm.specs.Text.{bytes, decimal, separator, values_text, line_text}
use Rattle.reading.specs.Decimal.{bound, decimal-length}

-- ---- lists put together from parts

pub flat_map_self : {A : Type 0} (xss : List (List A)) → flat_map (λ (xs : List A). xs) xss ≡ flatten xss
unfolding flat_map flatten
flat_map_self [] = refl
flat_map_self (xs ∷ xss) = ap (xs ++◌) (flat_map_self xss)

-- Each part is at most `k` times as long as that of another list
module _ {A B C : Type 0} (k : ℕ) where
  pub flat_map-at-most : (f : A → List B) (g : A → List C) (xs : List A) → Each (λ a. length (f a) ≤ k * length (g a)) xs
      → length (flat_map f xs) ≤ k * length (flat_map g xs)
  unfolding flat_map
  flat_map-at-most f g [] h = omega arith
  flat_map-at-most f g (x ∷ xs) h = omega (
    arith,
    length-append (f x) (flat_map f xs),
    ap (k *◌) (length-append (g x) (flat_map g xs)),
    mul-add k (length (g x)) (length (flat_map g xs)),
    each-head (λ a. length (f a) ≤ k * length (g a)) h,
    flat_map-at-most f g xs (each_tail (λ a. length (f a) ≤ k * length (g a)) h),
  )

  pub map_from-at-most : (f : ℕ → A → List B) (g : A → List C) (n : ℕ) (xs : List A)
      → ((i : ℕ) (a : A) → At a xs i → length (f (n + i) a) ≤ k * length (g a))
      → length (flatten (map_from f n xs)) ≤ k * length (flat_map g xs)
  unfolding flat_map flatten map_from
  map_from-at-most f g n [] h = omega arith
  map_from-at-most f g n (x ∷ xs) h =
      let here : length (f n x) ≤ k * length (g x) = rw add-zero at (h 0 x (first refl)) in
      omega (
        arith,
        length-append (f n x) (flatten (map_from f (suc n) xs)),
        ap (k *◌) (length-append (g x) (flat_map g xs)),
        mul-add k (length (g x)) (length (flat_map g xs)),
        map_from-at-most f g (suc n) xs (λ i a m. rw (add-suc, ← suc-add) at (h (suc i) a (later m))),
      )

-- ---- lines

values-at-most : (vs : List ℕ) → Each (◌≤ 999999) vs → length (values_text vs) ≤ 7 * length vs
unfolding values_text bound
values-at-most [] h = omega arith
values-at-most (v ∷ vs) h =
    let small : v ≤ 999999 = each-head (◌≤ 999999) h in
    omega (
      arith,
      length-append (decimal v) (separator (length vs) ∷ values_text vs),
      decimal-length 5 v (omega arith),
      values-at-most vs (each_tail (◌≤ 999999) h),
    )

-- `key=value`
pub line-length : (name : String) (vs : List ℕ) → Each (◌≤ 999999) vs → length (line_text name vs) ≤ length (bytes name) + 1 + 7 * length vs
unfolding line_text
line-length name vs h = omega (arith, length-append (bytes name) (61 ∷ values_text vs), values-at-most vs h)
