-- What a turn of a loop over pairings side by side adds, and the pairings of some things, each with a count wanted and the sizes of its sets.
use Rattle.std.specs.Prelude.{ℕ, zero, suc, ◌+◌, ◌-◌, ◌≤◌, ◌<◌, ◌≡◌, refl, List, [], ◌∷◌, ◌++◌, length, get_or, take, drop, sum}
use Rattle.std.proofs.Common.{arith, ap, ap₂, sym, ◌∙◌, append_assoc, append-nil, length-append, length-take, length-drop, drop-drop, drop_at, get_or-drop, add-one}
use Rattle.std.proofs.lemmas.List.{take-take}
use Rattle.std.proofs.lemmas.List.Sums.{sum_by-cons, sum_by-take-le}
use mathlib.Core.List.{map, flat_map, flatten, zip_with}
use Rattle.std.proofs.Math.Seq.{take_all}
use Rattle.pairing.specs.Pairing.{tuples}
use Rattle.tuples.specs.Steps.{padded, steps, tuple_of}
use Rattle.tuples.specs.StepsLaws.{padded-front, steps-row, length-steps, length-tuple_of}
use Rattle.tuples.specs.Nested.{steps_of_each, tuples_in}
use Rattle.tuples.specs.declared.Step.{Step}

pub steps_of_each_none : (ks s : List ℕ) → steps_of_each [] ks s ≡ []
unfolding steps_of_each
steps_of_each_none ks s = refl

pub tuples_none : (s : List Step) (ks : List ℕ) → tuples_in s ks [] ≡ []
unfolding tuples_in
tuples_none s ks = refl

sum-first : (k n : ℕ) (ks : List ℕ) → sum (take (suc n) (k ∷ ks)) ≡ k + sum (take n ks)
sum-first k n ks = sum_by-cons (λ x. x) k (take n ks)

-- a count that is not there is 0
sum-rest : (n : ℕ) (ks : List ℕ) → sum (take (suc n) ks) ≡ get_or ks 0 0 + sum (take n (drop 1 ks))
sum-rest zero [] = refl
sum-rest (suc n) [] = refl
sum-rest n (k ∷ ks) = sum-first k n ks

sum-more : (n : ℕ) (ks : List ℕ) → sum (take n ks) + get_or ks n 0 ≡ sum (take (suc n) ks)
sum-more zero [] = refl
sum-more (suc n) [] = refl
sum-more zero (k ∷ ks) = omega (arith, sum-first k 0 ks)
sum-more (suc n) (k ∷ ks) = omega (arith, sum-first k n ks, sum-first k (suc n) ks, sum-more n ks)

each-suc : (n : ℕ) (ws ks s : List ℕ) → n < length ws
    → steps_of_each (take (suc n) ws) ks s
    ≡ steps_of_each (take n ws) ks s ++ steps (get_or ws n 0) (padded (get_or ks n 0) (drop (sum (take n ks)) s))
unfolding steps_of_each
each-suc n [] ks s h = absurd (omega arith)
each-suc zero (w ∷ ws) ks s h = append-nil (steps w (padded (get_or ks 0 0) s))
each-suc (suc n) (w ∷ ws) ks s h =
    let k : ℕ = get_or ks 0 0 in
    let here : List Step = steps w (padded k s) in
    let before : List Step = steps_of_each (take n ws) (drop 1 ks) (drop k s) in
    let ek : get_or (drop 1 ks) n 0 ≡ get_or ks (suc n) 0 = get_or-drop 1 ks n 0 ∙ ap (λ m. get_or ks m 0) (omega arith) in
    let ed : drop (sum (take n (drop 1 ks))) (drop k s) ≡ drop (sum (take (suc n) ks)) s =
    drop-drop (sum (take n (drop 1 ks))) k s ∙ ap (λ m. drop m s) (sym (sum-rest n ks)) in
    ap (λ ys. here ++ ys) (each-suc n ws (drop 1 ks) (drop k s) (omega arith))
    ∙ sym (append_assoc here before (steps (get_or ws n 0) (padded (get_or (drop 1 ks) n 0) (drop (sum (take n (drop 1 ks))) (drop k s)))))
    ∙ ap₂ {C = List Step} (λ m z. here ++ before ++ steps (get_or ws n 0) (padded m z)) ek ed

tuples-suc : (n : ℕ) (s : List Step) (ks is : List ℕ) → n < length is → n < length ks
    → tuples_in s ks (take (suc n) is) ≡ tuples_in s ks (take n is) ++ tuple_of (take (get_or ks n 0) (drop (sum (take n ks)) s)) (get_or is n 0)
unfolding tuples_in
tuples-suc n s ks [] h l = absurd (omega arith)
tuples-suc n s [] (i ∷ is) h l = absurd (omega arith)
tuples-suc zero s (k ∷ ks) (i ∷ is) h l = append-nil (tuple_of (take k s) i)
tuples-suc (suc n) s (k ∷ ks) (i ∷ is) h l =
    ap (λ ys. tuple_of (take k s) i ++ ys) (tuples-suc n (drop k s) ks is (omega arith) (omega arith))
    ∙ sym (append_assoc (tuple_of (take k s) i) (tuples_in (drop k s) ks (take n is))
    (tuple_of (take (get_or ks n 0) (drop (sum (take n ks)) (drop k s))) (get_or is n 0)))
    ∙ ap (λ z. tuple_of (take k s) i ++ tuples_in (drop k s) ks (take n is) ++ tuple_of (take (get_or ks n 0) z) (get_or is n 0))
    (drop-drop (sum (take n ks)) k s ∙ ap (λ m. drop m s) (sym (sum-first k n ks)))

pub sum_within : (n r : ℕ) (ks : List ℕ) → n ≤ r → sum (take n ks) ≤ sum (take r ks)
sum_within n r ks h =
    let e : take n (take r ks) ≡ take n ks = take-take n r ks h in
    omega (arith, ap sum e, sum_by-take-le (λ x. x) (take r ks) n)

-- the rows of the first `n` pairings, whose steps are there
tuples-long : (n : ℕ) (s : List Step) (ks is : List ℕ) → n ≤ length is → n ≤ length ks → sum (take n ks) ≤ length s
    → length (tuples_in s ks (take n is)) ≡ sum (take n ks)
unfolding tuples_in
tuples-long zero s ks is h l m = refl
tuples-long (suc n) s ks [] h l m = absurd (omega arith)
tuples-long (suc n) s [] (i ∷ is) h l m = absurd (omega arith)
tuples-long (suc n) s (k ∷ ks) (i ∷ is) h l m =
    let e : sum (take (suc n) (k ∷ ks)) ≡ k + sum (take n ks) = sum-first k n ks in
    omega (
      arith,
      e,
      length-append (tuple_of (take k s) i) (tuples_in (drop k s) ks (take n is)),
      length-tuple_of (take k s) i,
      length-take k s,
      length-drop k s,
      tuples-long n (drop k s) ks is (omega arith) (omega arith) (omega (arith, e, length-drop k s)),
    )

-- ---- the turn of a loop over the first pairings

pub each_more : (ks ws s : List ℕ) {n k : ℕ} {r : List ℕ} → r ≡ drop (sum (take n ks)) s → k ≡ get_or ks n 0 → n < length ws
    → steps_of_each (take (n + 1) ws) ks s ≡ steps_of_each (take n ws) ks s ++ steps (get_or ws n 0) (padded k r)
each_more ks ws s {n} e ek l = rw (add-one, e, ek) (each-suc n ws ks s l)

-- the sizes behind those of one pairing more
pub rest_next : (ks s : List ℕ) (n : ℕ) {k : ℕ} {r r' : List ℕ} → r ≡ drop (sum (take n ks)) s → k ≡ get_or ks n 0 → r' ≡ drop k r
    → r' ≡ drop (sum (take (n + 1) ks)) s
rest_next ks s n {k} e ek e' =
    let moved : k + sum (take n ks) ≡ sum (take (n + 1) ks) = omega (arith, ek, ap (λ m. sum (take m ks)) (add-one n), sum-more n ks) in
    let at : sum (take n ks) + k ≡ sum (take (n + 1) ks) = omega arith in
    e' ∙ ap (drop k) e ∙ drop-drop k (sum (take n ks)) s ∙ ap (λ m. drop m s) at

module _ (ks : List ℕ) (n : ℕ) {a : ℕ} (ea : a ≡ sum (take n ks)) where
  pub sum_next : a + get_or ks n 0 ≡ sum (take (n + 1) ks)
  sum_next = omega (arith, ap (λ m. sum (take m ks)) (add-one n), sum-more n ks)

  -- where it is one of the first `r` pairings
  pub sum_fits : {r m : ℕ} → n < r → sum (take r ks) ≤ m → a + get_or ks n 0 ≤ m
  sum_fits {r} b l = omega (arith, sum_next, sum_within (n + 1) r ks (omega arith))

  pub tuples_more : (s : List Step) (is : List ℕ) → n < length ks → n < length is
      → tuples_in s ks (take (n + 1) is) ≡ tuples_in s ks (take n is) ++ tuple_of (take (a + get_or ks n 0 - a) (drop a s)) (get_or is n 0)
  tuples_more s is h l =
      let e : a + get_or ks n 0 - a ≡ get_or ks n 0 = omega arith in
      rw (add-one, e, ea) (tuples-suc n s ks is l h)

pub tuples_long : (s : List Step) (ks is : List ℕ) {n a : ℕ} → a ≡ sum (take n ks) → n ≤ length is → length is ≤ length ks
    → sum (take (length is) ks) ≤ length s → a ≡ length (tuples_in s ks (take n is))
tuples_long s ks is {n} ea h l m = ea ∙ sym (tuples-long n s ks is h (omega arith) (omega (arith, sum_within n (length is) ks h)))

pub tuples_all : (s : List Step) (ks is : List ℕ) {n a : ℕ} → a ≡ sum (take n ks) → n ≤ length is → length is ≤ n → length is ≤ length ks
    → sum (take (length is) ks) ≤ length s → a ≡ length (tuples_in s ks is)
tuples_all s ks is {n} ea h h' l m = tuples_long s ks is ea h l m ∙ ap (λ js. length (tuples_in s ks js)) (take_all n is h')

-- ---- the pairings of some things

module _ {A : Type 0} (want : A → ℕ) (sizes : A → List ℕ) where
  abbrev steps_of : A → List Step
  steps_of a = steps (want a) (sizes a)

  -- how many sets each has
  abbrev set_count : A → ℕ
  set_count a = length (sizes a)

  pub each-steps : (xs : List A) → steps_of_each (map want xs) (map set_count xs) (flat_map sizes xs) ≡ flat_map steps_of xs
  unfolding steps_of_each flat_map
  each-steps [] = refl
  each-steps (a ∷ xs) =
      ap₂ {C = List Step} (λ x y. steps (want a) x ++ steps_of_each (map want xs) (map set_count xs) y)
      (padded-front (sizes a) (flat_map sizes xs))
      (drop_at (sizes a) (flat_map sizes xs) (set_count a) refl)
      ∙ ap {B = List Step} (λ l. steps_of a ++ l) (each-steps xs)

  -- whatever stands behind the steps and the counts
  pub each_row : (xs : List A) (is : List ℕ) (rest : List Step) (rest' : List ℕ) → length is ≡ length xs
      → tuples_in (flat_map steps_of xs ++ rest) (map set_count xs ++ rest') is ≡ flatten (zip_with (λ a i. (tuples (want a) (sizes a)).row i) xs is)
  unfolding tuples_in flat_map flatten zip_with
  each_row [] [] rest rest' e = refl
  each_row [] (i ∷ is) rest rest' e = absurd (omega arith)
  each_row (a ∷ xs) [] rest rest' e = absurd (omega arith)
  each_row (a ∷ xs) (i ∷ is) rest rest' e =
      rw (append_assoc (steps_of a) (flat_map steps_of xs) rest)
      (ap₂ {C = List ℕ} (λ x y. x ++ y)
      (steps-row (want a) (sizes a) (flat_map steps_of xs ++ rest) i)
      (ap (λ l. tuples_in l (map set_count xs ++ rest') is)
      (drop_at (steps_of a) (flat_map steps_of xs ++ rest) (set_count a) (length-steps (want a) (sizes a)))
      ∙ each_row xs is rest rest' (omega arith)))

  -- where nothing stands behind them
  pub each_row_alone : (xs : List A) (is : List ℕ) → length is ≡ length xs
      → tuples_in (flat_map steps_of xs) (map set_count xs) is ≡ flatten (zip_with (λ a i. (tuples (want a) (sizes a)).row i) xs is)
  each_row_alone xs is e =
      ap₂ {C = List ℕ} (λ s k. tuples_in s k is) (sym (append-nil (flat_map steps_of xs))) (sym (append-nil (map set_count xs)))
      ∙ each_row xs is [] [] e
