-- Storing in parts, and a tuple, from its last index to its first.
use Rattle.std.specs.Prelude.{ℕ, suc, ◌+◌, ◌≤◌, ◌<◌, ◌-◌, ◌≡◌, refl, List, [], ◌∷◌, ◌++◌, length, get_or, set, take, drop}
use Rattle.std.proofs.Common.{arith, add-zero, sym, ap, ◌∙◌, drop_of_length-le, drop-cons}
use Rattle.std.proofs.lemmas.List.Edits.{sets, sets-eq}
use Rattle.std.proofs.lemmas.List.{set_comm}
use Rattle.std.proofs.Math.Seq.{length-sets, take-append_seam}
use Rattle.tuples.specs.Steps.{entry_of, before_of, first_row, entries, tuple_of}
use Rattle.tuples.specs.Stored.{Stored}
use Rattle.tuples.specs.declared.Step.{Step}

sets_append : (o : List ℕ) (at : ℕ) (xs ys : List ℕ) → sets o at (xs ++ ys) ≡ sets (sets o at xs) (at + length xs) ys
sets_append o at [] ys = ap (λ (n : ℕ). sets o n ys) (sym (add-zero at))
sets_append o at (x ∷ xs) ys =
    let e : suc at + length xs ≡ at + suc (length xs) = omega arith in
    sets_append (set o at x) (suc at) xs ys ∙ ap (λ (n : ℕ). sets (sets (set o at x) (suc at) xs) n ys) e

-- stores at different indices
sets-set : (o : List ℕ) (at : ℕ) (xs : List ℕ) (n v : ℕ) → n < at → sets (set o n v) at xs ≡ set (sets o at xs) n v
sets-set o at [] n v h = refl
sets-set o at (x ∷ xs) n v h =
    ap (λ (l : List ℕ). sets l (suc at) xs) (set_comm o n at v x (λ e. omega arith)) ∙ sets-set (set o at x) (suc at) xs n v (omega arith)

pub stored_none : (o : List ℕ) (at : ℕ) → Stored o at [] o
stored_none o at = record { is = refl }

pub stored_more : {o o' o'' xs ys zs : List ℕ} {at : ℕ} → Stored o 0 xs o' → Stored o' at ys o'' → at ≡ length xs → zs ≡ xs ++ ys → Stored o 0 zs o''
stored_more {o} {o'} {o''} {xs} {ys} {zs} {at} w v e f =
    let e' : at ≡ 0 + length xs = omega (arith, e) in
    record { is = v.is ∙ rw (w.is, e') (sym (sets_append o 0 xs ys)) ∙ ap (sets o 0) (sym f) }

pub stored-long : {o o' xs : List ℕ} {at : ℕ} → Stored o at xs o' → length o' ≡ length o
stored-long {o} {o'} {xs} {at} w = ap length w.is ∙ length-sets o at xs

-- what stands at the front
pub stored-front : {o o' xs : List ℕ} → Stored o 0 xs o' → length xs ≤ length o → take (length xs) o' ≡ xs
stored-front {o} {o'} {xs} w h = ap (take (length xs)) (w.is ∙ sets-eq xs o 0 (omega arith)) ∙ take-append_seam xs (drop (0 + length xs) o)

-- ---- a tuple

-- Of row `i` the indices from step `j` on are stored into the buffer `o`, which leaves the row `x` of the tuples before them
pub record Walked (s : List Step) (i to : ℕ) (o : List ℕ) (j x : ℕ) (o' : List ℕ) : Type 0 where
  pub row : x ≡ first_row (drop j s) i
  pub stored : Stored o (to + j) (entries (drop j s) i) o'

module _ (s : List Step) (i to : ℕ) (o : List ℕ) where
  pub walked_none : {j : ℕ} → length s ≤ j → Walked s i to o j i o
  unfolding first_row entries
  walked_none {j} h = record {
    row = ap (λ l. first_row l i) (sym (drop_of_length-le s h));
    stored = record { is = ap (λ l. sets o (to + j) (entries l i)) (sym (drop_of_length-le s h)) };
  }

  next : {j x : ℕ} {o' : List ℕ} (w : Walked s i to o (suc j) x o') (a : Step) → drop j s ≡ a ∷ drop (suc j) s → {x' e : ℕ}
      → x' ≡ before_of a x → e ≡ entry_of a x → Walked s i to o j x' (set o' (to + j) e)
  unfolding first_row entries
  next {j} {x} {o'} w a d {x'} {e} ex ee =
      let behind : List Step = drop (suc j) s in
      let rest : List ℕ = entries behind i in
      let n : to + suc j ≡ suc (to + j) = omega arith in
      let moved : set (sets o (suc (to + j)) rest) (to + j) (entry_of a x) ≡ sets (set o (to + j) (entry_of a x)) (suc (to + j)) rest =
      sym (sets-set o (suc (to + j)) rest (to + j) (entry_of a x) (omega arith)) in
      let first : sets (set o (to + j) (entry_of a x)) (suc (to + j)) rest ≡ sets o (to + j) (entry_of a (first_row behind i) ∷ rest) =
      ap (λ y. sets (set o (to + j) (entry_of a y)) (suc (to + j)) rest) w.row in
      record {
        row = ex ∙ ap (before_of a) w.row ∙ ap (λ l. first_row l i) (sym d);
        stored = record {
          is =
              ap (λ y. set o' (to + j) y) ee ∙ ap (λ l. set l (to + j) (entry_of a x)) (w.stored.is ∙ ap (λ m. sets o m rest) n)
              ∙ moved ∙ first ∙ ap (λ l. sets o (to + j) (entries l i)) (sym d);
        };
      }

  pub walked_more : {j x : ℕ} {o' : List ℕ} → Walked s i to o j x o' → 1 < j → j ≤ length s → (d : Step) {x' e : ℕ}
      → x' ≡ before_of (get_or s (j - 1) d) x → e ≡ entry_of (get_or s (j - 1) d) x → Walked s i to o (j - 1) x' (set o' (to + (j - 1)) e)
  walked_more {j} {x} {o'} w h l d ex ee =
      let e : j ≡ suc (j - 1) = omega arith in
      next (rw e at w) (get_or s (j - 1) d) (drop-cons s (j - 1) d (omega arith)) ex ee

  pub walked_empty : {j x : ℕ} {o' : List ℕ} → Walked s i to o j x o' → length s ≤ 0 → Stored o to (tuple_of s i) o'
  unfolding tuple_of entries
  walked_empty w h = go s i h w
    where
      go : (s : List Step) (i : ℕ) → length s ≤ 0 → {j x : ℕ} {o' : List ℕ} → Walked s i to o j x o' → Stored o to (tuple_of s i) o'
      go [] i h {j} w = record { is = w.stored.is ∙ ap (λ l. sets o (to + j) (entries l i)) (drop_of_length-le [] (omega arith)) }
      go (a ∷ s) i h w = absurd (omega arith)

  pub walked_all : {j x : ℕ} {o' : List ℕ} → Walked s i to o j x o' → 0 < length s → 1 ≤ j → j ≤ 1 → Stored o to (tuple_of s i) (set o' to x)
  unfolding tuple_of
  walked_all {j} w h l m = let e : j ≡ 1 = omega arith in go s i h (rw e at w)
    where
      go : (s : List Step) (i : ℕ) → 0 < length s → {x : ℕ} {o' : List ℕ} → Walked s i to o 1 x o' → Stored o to (tuple_of s i) (set o' to x)
      go [] i h w = absurd (omega arith)
      go (a ∷ rest) i h {x} {o'} w =
          let n : to + 1 ≡ suc to = omega arith in
          record {
            is =
                ap (λ l. set l to x) (w.stored.is ∙ ap (λ m. sets o m (entries rest i)) n)
                ∙ ap (set (sets o (suc to) (entries rest i)) to) w.row
                ∙ sym (sets-set o (suc to) (entries rest i) to (first_row rest i) (omega arith));
          }
