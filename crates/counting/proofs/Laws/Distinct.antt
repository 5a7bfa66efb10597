-- What all, member, within, all_differ, occurrences and distinct say of a list's members.
use Prim.Native.Nat.{ℕ, suc, ◌+◌, ◌≤◌, ◌<◌, zero-le, suc-le-suc}
use Rattle.std.specs.Prelude.{◌≡◌, ◌↔◌, ◌⊎◌, Bool, not, ◌&&◌, ◌||◌}
use Rattle.std.proofs.Math.Path.{refl, sym, ap}
use Rattle.std.proofs.Common.{◌∙◌, inl, inr}
use Rattle.std.proofs.Math.Logic.Iff
use Rattle.std.proofs.Math.Logic.{eq_comm, ⊎_elim}
use Rattle.std.proofs.Math.Bool.{true, false, or-true, or_assoc, false≢true, and-eq-true_iff}
use mathlib.Mathlib.Data.Bool.Basic.{not_iff_not, Bool-iff_false}
use mathlib.Core.List.Memᴰ
use mathlib.Core.List.Memᴰ.{head as here}
use mathlib.Core.List.Memᴰ.{tail as there}
use mathlib.Core.List.{List, [], ◌∷◌, ◌++◌, map}
use Rattle.std.proofs.Math.Nat.{add-zero, suc_inj}
use native.Mathlib.Omega.{arith}
use Rattle.std.proofs.Math.ListN.{length}
use Rattle.counting.specs.Totals.{bit}
use Rattle.counting.specs.Distinct.{all, member, distinct, occurrences, all_differ, within}
use Rattle.counting.specs.Terms.{Decides, ◌∈◌, ◌⊆◌, Each, NoRepeats}
use Rattle.counting.proofs.Laws.Members.{each_nil, each-cons, each-head, each_tail, cons_⊆}

-- `Reduces xs ds`: ds is xs with only the last occurrence of each element
data Reduces {A : Type 0} : List A → List A → Type 0 where
  none : Reduces [] []
  old : {x : A} {xs ds : List A} → x ∈ xs → Reduces xs ds → Reduces (x ∷ xs) ds
  new : {x : A} {xs ds : List A} → ¬ x ∈ xs → Reduces xs ds → Reduces (x ∷ xs) (x ∷ ds)

module _ {A : Type 0} where
  reduces_⊆ : {xs ds : List A} → Reduces xs ds → ds ⊆ xs
  reduces_⊆ none a m = m
  reduces_⊆ (old k r) a m = there (reduces_⊆ r a m)
  reduces_⊆ (new n r) a (here e) = here e
  reduces_⊆ (new n r) a (there m) = there (reduces_⊆ r a m)

  reduces_⊇ : {xs ds : List A} → Reduces xs ds → xs ⊆ ds
  reduces_⊇ none a m = m
  reduces_⊇ (old k r) a (here e) = reduces_⊇ r a (Memᴰ.cast e k)
  reduces_⊇ (old k r) a (there m) = reduces_⊇ r a m
  reduces_⊇ (new n r) a (here e) = here e
  reduces_⊇ (new n r) a (there m) = there (reduces_⊇ r a m)

  reduces_no_repeats : {xs ds : List A} → Reduces xs ds → NoRepeats ds
  reduces_no_repeats none = tt
  reduces_no_repeats (old k r) = reduces_no_repeats r
  reduces_no_repeats (new n r) = (λ m. n (reduces_⊆ r _ m), reduces_no_repeats r)

  reduces_length : {xs ds : List A} → Reduces xs ds → length ds ≤ length xs
  reduces_length none = zero-le
  reduces_length (old k r) = omega (arith, reduces_length r)
  reduces_length (new n r) = suc-le-suc (reduces_length r)

  reduces_all : {xs ds : List A} → Reduces xs ds → length ds ≡ length xs ↔ NoRepeats xs
  reduces_all none = (λ e. tt, λ n. refl)
  reduces_all (old k r) = (λ e. absurd (omega (arith, e, reduces_length r)), λ n. absurd (n.0 k))
  reduces_all (new n r) = (λ e. (n, (reduces_all r).0 (suc_inj e)), λ n'. ap suc ((reduces_all r).1 n'.1))

or_cases : (p q : Bool) → (p || q) ≡ true → (p ≡ true) ⊎ (q ≡ true)
or_cases true q e = inl refl
or_cases false q e = inr e

pub bool_ext : (p q : Bool) → p ≡ true ↔ q ≡ true → p ≡ q
bool_ext true q h = sym (h.0 refl)
bool_ext false true h = h.1 refl
bool_ext false false h = refl

pub all_decides : {A : Type 0} (p : A → Bool) {P : A → Type 0} → ((a : A) → p a ≡ true ↔ P a) → (xs : List A) → all p xs ≡ true ↔ Each P xs
unfolding all
all_decides p {P} h [] = (λ e. each_nil P, λ f. refl)
all_decides p {P} h (x ∷ xs) =
    Iff.trans (and-eq-true_iff _ _)
    (Iff.trans (Iff.and (h x) (all_decides p h xs)) (λ q. each-cons P q.0 q.1, λ f. (each-head P f, each_tail P f)))

-- an element that fails the test
pub all-fails : {A : Type 0} (p : A → Bool) (xs : List A) → all p xs ≡ false → (x : A) × (x ∈ xs) × (p x ≡ false)
unfolding all
all-fails p [] e = absurd (false≢true (sym e))
all-fails {A} p (x ∷ xs) e = go (p x) refl e (all-fails p xs)
  where
    go : (b : Bool) → p x ≡ b → (b && all p xs) ≡ false → (all p xs ≡ false → (y : A) × (y ∈ xs) × (p y ≡ false))
        → (y : A) × (y ∈ (x ∷ xs)) × (p y ≡ false)
    go false q e rest = (x, here refl, q)
    go true q e rest = let (y, m, f) = rest e in (y, there m, f)

module _ {A : Type 0} (eq : A → A → Bool) where
  pub occurrences-cons : (a x : A) (xs : List A) → occurrences eq a (x ∷ xs) ≡ bit (eq a x) + occurrences eq a xs
  unfolding occurrences bit
  occurrences-cons a x xs = go (eq a x) (occurrences eq a xs)
    where
      go : (b : Bool) (n : ℕ) → elim b [ true ↦ suc n | false ↦ n ] ≡ bit b + n
      go true n = omega arith
      go false n = omega arith

  pub occurrences-one : (a x : A) → occurrences eq a (x ∷ []) ≡ bit (eq a x)
  unfolding occurrences
  occurrences-one a x = occurrences-cons a x [] ∙ add-zero _

  pub occurrences_append : (a : A) (xs ys : List A) → occurrences eq a (xs ++ ys) ≡ occurrences eq a xs + occurrences eq a ys
  unfolding occurrences
  occurrences_append a [] ys = omega arith
  occurrences_append a (x ∷ xs) ys = omega (arith, occurrences-cons a x (xs ++ ys), occurrences-cons a x xs, occurrences_append a xs ys)

  pub length-distinct-cons : (x : A) (xs : List A) → length (distinct eq (x ∷ xs)) ≡ bit (not (member eq x xs)) + length (distinct eq xs)
  unfolding distinct bit
  length-distinct-cons x xs = go (member eq x xs) (distinct eq xs)
    where
      go : (b : Bool) (ds : List A) → length {A = A} (elim b [ true ↦ ds | false ↦ x ∷ ds ]) ≡ bit (not b) + length ds
      go true ds = omega arith
      go false ds = omega arith

  pub member_append : (a : A) (xs ys : List A) → member eq a (xs ++ ys) ≡ (member eq a xs || member eq a ys)
  unfolding member
  member_append a [] ys = refl
  member_append a (x ∷ xs) ys = ap (λ (b : Bool). eq a x || b) (member_append a xs ys) ∙ sym (or_assoc (eq a x) (member eq a xs) (member eq a ys))

module _ {A : Type 0} {eq : A → A → Bool} (decides : Decides eq) where
  member_in : (a : A) (xs : List A) → member eq a xs ≡ true → a ∈ xs
  unfolding member
  member_in a [] e = absurd (false≢true e)
  member_in a (x ∷ xs) e = ⊎_elim (λ p. here ((decides.iff a x).0 p)) (λ q. there (member_in a xs q)) (or_cases _ _ e)

  in_member : {a : A} {xs : List A} → a ∈ xs → member eq a xs ≡ true
  unfolding member
  in_member {a} (here {x = x} e) = rw ((decides.iff a x).1 e)
  in_member (there m) = rw (in_member m, or-true)

  pub member_decides : (a : A) (xs : List A) → member eq a xs ≡ true ↔ a ∈ xs
  member_decides a xs = (member_in a xs, in_member)

  pub within_decides : (xs ys : List A) → within eq xs ys ≡ true ↔ xs ⊆ ys
  unfolding within
  within_decides [] ys = (λ e a m. absurd (Memᴰ.not-nil m), λ s. refl)
  within_decides (x ∷ xs) ys =
      Iff.trans (and-eq-true_iff _ _) (Iff.trans (Iff.and (member_decides x ys) (within_decides xs ys)) (cons_⊆ x xs ys))

  pub all_differ_decides : (xs : List A) → all_differ eq xs ≡ true ↔ NoRepeats xs
  unfolding all_differ
  all_differ_decides [] = (λ e. tt, λ n. refl)
  all_differ_decides (x ∷ xs) =
      Iff.trans (and-eq-true_iff _ _) (Iff.and (Iff.trans not_iff_not (Iff.not (member_decides x xs))) (all_differ_decides xs))

  distinct_reduces : (xs : List A) → Reduces xs (distinct eq xs)
  unfolding distinct
  distinct_reduces [] = none
  distinct_reduces (x ∷ xs) = go (member eq x xs) refl (distinct_reduces xs)
    where
      go : (b : Bool) → member eq x xs ≡ b → Reduces xs (distinct eq xs)
          → Reduces (x ∷ xs) (elim b [ true ↦ distinct eq xs | false ↦ x ∷ distinct eq xs ])
      go true e r = old (member_in x xs e) r
      go false e r = new (λ m. false≢true (sym e ∙ in_member m)) r

  pub distinct_no_repeats : (xs : List A) → NoRepeats (distinct eq xs)
  distinct_no_repeats xs = reduces_no_repeats (distinct_reduces xs)

  pub distinct_⊆ : (xs : List A) → distinct eq xs ⊆ xs
  distinct_⊆ xs = reduces_⊆ (distinct_reduces xs)

  pub ⊆_distinct : (xs : List A) → xs ⊆ distinct eq xs
  ⊆_distinct xs = reduces_⊇ (distinct_reduces xs)

  pub in_distinct-map : {B : Type 0} (f : B → A) {b : B} {xs : List B} → b ∈ xs → f b ∈ distinct eq (map f xs)
  in_distinct-map f {b} {xs} m = ⊆_distinct (map f xs) (f b) (Memᴰ.map f m)

  pub length-distinct-some : (xs : List A) → 0 < length xs → 0 < length (distinct eq xs)
  unfolding distinct member
  length-distinct-some [] h = absurd (omega arith)
  length-distinct-some (x ∷ []) h = omega arith
  length-distinct-some (x ∷ y ∷ xs) h = omega (arith, length-distinct-cons eq x (y ∷ xs), length-distinct-some (y ∷ xs) (omega arith))

  pub length-distinct_le : (xs : List A) → length (distinct eq xs) ≤ length xs
  length-distinct_le xs = reduces_length (distinct_reduces xs)

  pub length-distinct-iff : (xs : List A) → length (distinct eq xs) ≡ length xs ↔ NoRepeats xs
  length-distinct-iff xs = reduces_all (distinct_reduces xs)

  pub eq_sym : (a b : A) → eq a b ≡ eq b a
  eq_sym a b = bool_ext _ _ (Iff.trans (decides.iff a b) (Iff.trans eq_comm (Iff.symm (decides.iff b a))))

  pub eq_apart : (a b : A) → ¬ (a ≡ b) → eq a b ≡ false
  eq_apart a b n = Bool-iff_false.0 (λ e. n ((decides.iff a b).0 e))

  pub apart-of-false : (a b : A) → eq a b ≡ false → ¬ (a ≡ b)
  apart-of-false a b e q = false≢true (sym e ∙ (decides.iff a b).1 q)

  pub occurrences-absent : (a : A) (xs : List A) → ¬ a ∈ xs → occurrences eq a xs ≡ 0
  unfolding occurrences
  occurrences-absent a [] n = refl
  occurrences-absent a (x ∷ xs) n = rw (eq_apart a x (λ e. n (here e)), occurrences) (occurrences-absent a xs (λ m. n (there m)))
