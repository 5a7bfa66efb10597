-- How often the elements of a list occur where they differ.
use Rattle.std.specs.Prelude.{◌≤◌, ◌≡◌, Bool, List, [], ◌∷◌, map}
use Rattle.std.proofs.Math.Path.{ap}
use mathlib.Core.List.Memᴰ
use mathlib.Core.List.Memᴰ.{head as here}
use mathlib.Core.List.Memᴰ.{tail as there}
use Rattle.std.proofs.Common.{arith}
use Rattle.counting.specs.Totals.{bit}
use Rattle.counting.specs.Distinct.{occurrences}
use Rattle.counting.specs.Terms.{Decides, ◌∈◌, Each, NoRepeats}
use Rattle.counting.proofs.Laws.Members.{apart}
use Rattle.counting.proofs.Laws.Distinct.{occurrences-cons, occurrences-absent, eq_apart, length-distinct_le, length-distinct-iff}
use Rattle.counting.proofs.Laws.Multiplicity.{occurrences_le}

module _ {A : Type 0} {eq : A → A → Bool} (decides : Decides eq) where
  pub occurs : {a : A} {xs : List A} → a ∈ xs → 1 ≤ occurrences eq a xs
  unfolding bit
  occurs {a} (here {x = x} {xs = xs} e) =
      let z : bit (eq a x) ≡ 1 = ap bit ((decides.iff a x).1 e) in
      omega (arith, occurrences-cons eq a x xs)
  occurs {a} (there {x = x} {xs = xs} m) = omega (arith, occurrences-cons eq a x xs, occurs m)

  pub occurs-once : {a : A} {xs : List A} → NoRepeats xs → a ∈ xs → occurrences eq a xs ≤ 1
  unfolding bit
  occurs-once {a} n (here {x = x} {xs = xs} e) =
      let z : bit (eq a x) ≡ 1 = ap bit ((decides.iff a x).1 e) in
      omega (arith, occurrences-cons eq a x xs, occurrences-absent decides a xs (λ m. apart n.0 m e))
  occurs-once {a} n (there {x = x} {xs = xs} m) =
      let z : bit (eq a x) ≡ 0 = ap bit (eq_apart decides a x (apart n.0 m)) in
      omega (arith, occurrences-cons eq a x xs, occurs-once n.1 m)

  pub once-apart : (xs : List A) → Each (λ a. occurrences eq a xs ≤ 1) xs → NoRepeats xs
  once-apart xs h = (length-distinct-iff decides xs).0 (omega (arith, length-distinct_le decides xs, occurrences_le decides 1 xs h))

pub no_repeats_of : {A B : Type 0} (f : A → B) (xs : List A) → NoRepeats (map f xs) → NoRepeats xs
no_repeats_of f [] n = tt
no_repeats_of f (x ∷ xs) n = (λ m. n.0 (Memᴰ.map f m), no_repeats_of f xs n.1)
