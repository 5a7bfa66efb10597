-- The result goes to the front of the table, if there is room for it.
use Prim.Native.Nat.{ℕ, ◌≤◌, ◌<◌}
use mathlib.Core.Path.{◌≡◌, refl, sym, ap, ◌∙◌}
use mathlib.Core.List.{List, ◌++◌}
use lib.ListN.{length, take, drop}
use lib.Seq.{length-take-le}
use borrow.Author.Tests.{lt-ltb, le-ltb}
use Rattle.orm.specs.Outcome.{Outcome, refused, accepted, length_of, fitted, buffer_after}

module _ (n : ℕ) (numbers t : List ℕ) (h : n ≤ length numbers) where
  long : length (take n numbers) ≡ n
  long = length-take-le n numbers h

  module _ (l : length t < n) where
    refuses : fitted (length t) (take n numbers) ≡ refused 8 n 0
    unfolding fitted
    refuses =
        let k : length t < length (take n numbers) = rw long l in
        rw (lt-ltb (length t) (length (take n numbers)) k, fitted) (ap (λ (m : ℕ). refused 8 m 0) long)

    pub short-outcome : refused 8 n 0 ≡ length_of (fitted (length t) (take n numbers))
    short-outcome = sym (ap length_of refuses)

    pub short-kept : t ≡ buffer_after (fitted (length t) (take n numbers)) t
    unfolding buffer_after
    short-kept = sym (ap (λ (o : Outcome (List ℕ)). buffer_after o t) refuses)

  module _ (l : n ≤ length t) where
    accepts : fitted (length t) (take n numbers) ≡ accepted (take n numbers)
    unfolding fitted
    accepts =
        let k : length (take n numbers) ≤ length t = rw long l in
        rw (le-ltb (length t) (length (take n numbers)) k, fitted) refl

    pub fits-outcome : accepted n ≡ length_of (fitted (length t) (take n numbers))
    fits-outcome = sym (ap length_of accepts ∙ ap accepted long)

    pub fits-written : {t' : List ℕ} → t' ≡ take n numbers ++ drop n t → t' ≡ buffer_after (fitted (length t) (take n numbers)) t
    unfolding buffer_after
    fits-written e =
        e ∙ ap (λ (k : ℕ). take n numbers ++ drop k t) (sym long) ∙ sym (ap (λ (o : Outcome (List ℕ)). buffer_after o t) accepts)
