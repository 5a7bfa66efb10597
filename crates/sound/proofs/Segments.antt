-- Where the sizes of some sets stand in a list of sizes.
use Rattle.std.specs.Prelude.{ℕ, suc, ◌+◌, ◌≡◌, refl, List, ◌∷◌, ◌++◌, map, length, get_or}
use Rattle.std.proofs.Common.{add-zero, zero-add, add_assoc, add-suc, suc-add}
use Rattle.counting.proofs.Laws.Index.{at-get_or, at_map, at_append_left, at_append_right}
use Rattle.counting.specs.Index.{At, first, later}

module _ {A : Type 0} (f : A → ℕ) where
  -- In `c`, from index `i` on, stand the sizes `f` of the elements of `l`
  pub record Segment (c : List ℕ) (i : ℕ) (l : List A) : Type 0 where
    pub entry : {j : ℕ} {a : A} → At a l j → At (f a) c (i + j)

  pub whole : (l : List A) → Segment (map f l) 0 l
  whole l = record { entry = λ h. rw zero-add (at_map f h) }

  module _ {c : List ℕ} {i : ℕ} where
    pub before : (b : List ℕ) {l : List A} → Segment c i l → Segment (c ++ b) i l
    before b s = record { entry = λ h. at_append_left b (s.entry h) }

    pub behind : (b : List ℕ) {n : ℕ} {l : List A} → length b + i ≡ n → Segment c i l → Segment (b ++ c) n l
    behind b e s = record { entry = λ h. rw (← e, add_assoc) (at_append_right b (s.entry h)) }

    pub size-at : {l : List A} → Segment c i l → {j : ℕ} {a : A} → At a l j → get_or c (i + j) 0 ≡ f a
    size-at s h = at-get_or 0 (s.entry h)

    pub head-size : {a : A} {l : List A} → Segment c i (a ∷ l) → get_or c i 0 ≡ f a
    head-size s = rw add-zero at (size-at s (first refl))

    pub tail : {a : A} {l : List A} → Segment c i (a ∷ l) → Segment c (suc i) l
    tail s = record { entry = λ h. rw (suc-add, ← add-suc) (s.entry (later h)) }

    pub left : (l m : List A) → Segment c i (l ++ m) → Segment c i l
    left l m s = record { entry = λ h. s.entry (at_append_left m h) }

    pub right : (l m : List A) {n : ℕ} → length l ≡ n → Segment c i (l ++ m) → Segment c (i + n) m
    right l m e s = record { entry = λ h. rw (← e, add_assoc) (s.entry (at_append_right l h)) }
