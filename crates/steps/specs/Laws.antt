-- What a caller has of a limit that was found by its number, or of a number that none has; and tests of limits, one after another.
use Rattle.std.specs.Prelude.{ℕ, zero, suc, ◌<◌, ◌≤◌, ◌≡◌, ◌↔◌, refl, Bool, true, false, ◌||◌, List, [], ◌∷◌, length, map, slice_get, slice_index_or, Some, None, All, Any, IsTrue}
use Rattle.std.proofs.Common.{arith, subst, sym, ap, ◌∙◌}
use Rattle.counting.specs.Index.{At, first, later}
use Rattle.fixpoint.specs.Limits as paper
use Rattle.fixpoint.specs.Limits.{lowers, any_lowers}
use Rattle.lowering.specs.Coded.{limit_of, limits_of}
use Rattle.lowering.specs.Closed.{Within, Closed}
use Rattle.lowering.specs.declared.Limit.{Limit}
use Rattle.lowering.specs.declared.Limits.{Limits}

module _ {A B : Type 0} (f : A → B) where
  get-at : (xs : List A) (k : ℕ) {x : A} → slice_get xs k ≡ Some x → At (f x) (map f xs) k
  get-at [] k e = let z : ◌≡◌ {A = ℕ} 0 1 = cc in absurd (omega arith)
  get-at (y ∷ xs) zero e = first cc
  get-at (y ∷ xs) (suc k) e = later (get-at xs k e)

  get-past : (xs : List A) (k : ℕ) → slice_get xs k ≡ None → length (map f xs) ≤ k
  get-past [] k e = omega arith
  get-past (y ∷ xs) zero e = let z : ◌≡◌ {A = ℕ} 0 1 = cc in absurd (omega arith)
  get-past (y ∷ xs) (suc k) e = let h = get-past xs k e in omega arith

each-get : {A : Type 0} (P : A → Type 0) (xs : List A) → All P xs → (k : ℕ) {x : A} → slice_get xs k ≡ Some x → P x
each-get P [] h k e = let z : ◌≡◌ {A = ℕ} 0 1 = cc in absurd (omega arith)
each-get P (y ∷ xs) h zero {x} e = let q : y ≡ x = cc in subst P q (h zero y (omega arith))
each-get P (y ∷ xs) h (suc k) e = each-get P xs (λ j d l. h (suc j) d (omega arith)) k e

module _ (l : Limits) (k : ℕ) where
  -- It stands at its number among the limits
  pub found_at : {x : Limit} → slice_get l.limits.now k ≡ Some x → At (limit_of l.operands.now x) (limits_of l) k
  found_at e = get-at (limit_of l.operands.now) l.limits.now k e

  pub found-within : {n : ℕ} {x : Limit} → Closed n l → slice_get l.limits.now k ≡ Some x → Within n l.operands.now x
  found-within {n} h e = each-get (Within n l.operands.now) l.limits.now h k e

  pub found_past : slice_get l.limits.now k ≡ None → length (limits_of l) ≤ k
  found_past e = get-past (limit_of l.operands.now) l.limits.now k e

-- Whether any of some limits lowers a size
module _ {A : Type 0} (f : A → paper.Limit) (c : List ℕ) where
  any_here : (xs : List A) (k : ℕ) (x : A) → k < length xs → slice_index_or xs k x ≡ x → lowers c (f x) ≡ true → any_lowers (map f xs) c ≡ true
  unfolding any_lowers
  any_here [] k x h e t = absurd (omega arith)
  any_here (y ∷ xs) zero x h e t = let q : lowers c (f y) ≡ true = ap (λ z. lowers c (f z)) e ∙ t in rw q
  any_here (y ∷ xs) (suc k) x h e t = go (lowers c (f y)) (any_here xs k x (omega arith) e t)
    where
      go : (b : Bool) → any_lowers (map f xs) c ≡ true → (b || any_lowers (map f xs) c) ≡ true
      go true q = refl
      go false q = q

  some_of : (xs : List A) → any_lowers (map f xs) c ≡ true → Any (λ x. IsTrue (lowers c (f x))) xs
  unfolding any_lowers
  some_of [] e = let z : ◌≡◌ {A = ℕ} 0 1 = cc in absurd (omega arith)
  some_of (y ∷ xs) e = go (lowers c (f y)) refl (some_of xs) e
    where
      go : (b : Bool) → lowers c (f y) ≡ b → (any_lowers (map f xs) c ≡ true → Any (λ x. IsTrue (lowers c (f x))) xs) → (b || any_lowers (map f xs) c) ≡ true → Any (λ x. IsTrue (lowers c (f x))) (y ∷ xs)
      go true q rec h = (0, y, omega arith, refl, q)
      go false q rec h = let (k, x, l, at, t) = rec h in (suc k, x, omega arith, at, t)

  pub any-is : (xs : List A) (r : Bool) → (IsTrue r ↔ Any (λ x. IsTrue (lowers c (f x))) xs) → r ≡ any_lowers (map f xs) c
  any-is xs r h = go r (any_lowers (map f xs) c) refl h
    where
      go : (a b : Bool) → any_lowers (map f xs) c ≡ b → (IsTrue a ↔ Any (λ x. IsTrue (lowers c (f x))) xs) → a ≡ b
      go true true e h = refl
      go false false e h = refl
      go true false e h = let (k, x, l, at, t) = h.0 refl in sym (any_here xs k x l at t) ∙ e
      go false true e h = h.1 (some_of xs e)
