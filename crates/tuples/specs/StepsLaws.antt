-- The row of a prepared pairing is the row of the pairing.
use Rattle.std.specs.Prelude.{ℕ, zero, suc, ◌+◌, ◌*◌, ◌/◌, ◌%◌, min, ◌-◌, ◌≤◌, ◌<◌, ◌≡◌, refl, List, [], ◌∷◌, ◌++◌, length, get_or, take, drop, fold}
use Rattle.std.proofs.Common.{arith, ap, ap₂, sym, ◌∙◌, append-nil, append_assoc, add-one, drop-drop}
use Rattle.std.proofs.Math.Nat.{mod-le}
use Rattle.std.proofs.Common.{div-le_self, get_or-drop}
use Rattle.std.proofs.Math.Seq.{take_at}
use Rattle.pairing.specs.Pairing.{lcm, left_of, right_of, Tuples, single, paired_with, paired_with_all, tuples}
use Rattle.tuples.specs.Steps.{padded, steps_from, steps, entry_of, first_row, entries, tuple_of, Small}
use Rattle.tuples.specs.declared.Step.{Step}

module _ (want : ℕ) where
  -- how many tuples there are behind sets of these sizes, paired with `n` tuples
  abbrev pub behind : ℕ → List ℕ → ℕ
  behind n ts = fold (λ m t. min want (m * t)) n ts

  abbrev pub step : ℕ → ℕ → Step
  step n t = record { tuples = n; common = lcm n t; size = t }

  pub steps_from_none : (n : ℕ) → steps_from want n [] ≡ []
  unfolding steps_from
  steps_from_none n = refl

  pub steps_from_more : (n : ℕ) (ts : List ℕ) (t : ℕ) → steps_from want n (ts ++ t ∷ []) ≡ steps_from want n ts ++ step (behind n ts) t ∷ []
  unfolding steps_from
  steps_from_more n [] t = refl
  steps_from_more n (s ∷ ts) t = ap (λ l. step n s ∷ l) (steps_from_more (min want (n * s)) ts t)

  length-steps_from : (n : ℕ) (ts : List ℕ) → length (steps_from want n ts) ≡ length ts
  unfolding steps_from
  length-steps_from n [] = refl
  length-steps_from n (t ∷ ts) = ap suc (length-steps_from (min want (n * t)) ts)

  pub length-steps : (ts : List ℕ) → length (steps want ts) ≡ length ts
  unfolding steps
  length-steps [] = refl
  length-steps (t ∷ ts) = ap suc (length-steps_from t ts)

  pub steps_none : (sizes : List ℕ) {k : ℕ} → k ≡ 0 → steps want (padded k sizes) ≡ []
  unfolding steps padded
  steps_none sizes e = rw e

  pub steps_first : (k : ℕ) (sizes : List ℕ) → (k ≡ 0 → ⊥) → steps want (padded k sizes)
      ≡ record { tuples = 0; common = 0; size = 0 } ∷ steps_from want (get_or sizes 0 0) (padded (k - 1) (drop 1 sizes))
  unfolding steps padded
  steps_first zero sizes h = absurd (h refl)
  steps_first (suc k) sizes h =
      let e : k ≡ suc k - 1 = omega arith in
      ap (λ j. record { tuples = 0; common = 0; size = 0 } ∷ steps_from want (get_or sizes 0 0) (padded j (drop 1 sizes))) e

  paired-row : (r : Tuples) (ts : List ℕ) (i : ℕ)
      → (paired_with_all want r ts).row i ≡ r.row (first_row (steps_from want r.count ts) i) ++ entries (steps_from want r.count ts) i
  unfolding paired_with_all paired_with steps_from first_row entries left_of right_of
  paired-row r [] i = sym (append-nil (r.row i))
  paired-row r (t ∷ ts) i =
      let rest : List Step = steps_from want (min want (r.count * t)) ts in
      let j : ℕ = first_row rest i in
      paired-row (paired_with want r t) ts i
      ∙ append_assoc (r.row (j % r.count)) (((j + j / lcm r.count t) % t) ∷ []) (entries rest i)

  pub steps-row_alone : (sizes : List ℕ) (i : ℕ) → tuple_of (steps want sizes) i ≡ (tuples want sizes).row i
  unfolding steps tuples single tuple_of
  steps-row_alone [] i = refl
  steps-row_alone (s ∷ ss) i = sym (paired-row (single s) ss i)

  -- whatever stands behind its steps
  pub steps-row : (sizes : List ℕ) (rest : List Step) (i : ℕ) → tuple_of (take (length sizes) (steps want sizes ++ rest)) i ≡ (tuples want sizes).row i
  steps-row sizes rest i =
      ap (λ l. tuple_of l i) (take_at (steps want sizes) rest (length sizes) (length-steps sizes)) ∙ steps-row_alone sizes i

length-entries : (s : List Step) (i : ℕ) → length (entries s i) ≡ length s
unfolding entries
length-entries [] i = refl
length-entries (a ∷ s) i = ap suc (length-entries s i)

pub length-tuple_of : (s : List Step) (i : ℕ) → length (tuple_of s i) ≡ length s
unfolding tuple_of
length-tuple_of [] i = refl
length-tuple_of (a ∷ s) i = ap suc (length-entries s i)

-- ---- the sizes, and 0 for each that is not there

pub padded-more : (s : List ℕ) (p n : ℕ) → 0 < n → padded n (drop p s) ≡ get_or (drop p s) 0 0 ∷ padded (n - 1) (drop (p + 1) s)
unfolding padded
padded-more s p zero h = absurd (omega arith)
padded-more s p (suc n) h =
    let e : n ≡ suc n - 1 = omega arith in
    ap₂ {C = List ℕ} (λ m r. get_or (drop p s) 0 0 ∷ padded m r) e (drop-drop 1 p s)

pub padded-none : (n : ℕ) (s : List ℕ) → n ≤ 0 → padded n s ≡ []
unfolding padded
padded-none zero s h = refl
padded-none (suc n) s h = absurd (omega arith)

-- The first numbers of a list with others behind it are the list
pub padded-front : (xs ys : List ℕ) → padded (length xs) (xs ++ ys) ≡ xs
unfolding padded
padded-front [] ys = refl
padded-front (x ∷ xs) ys = ap {B = List ℕ} (λ l. x ∷ l) (padded-front xs ys)

pub padded-all : (xs : List ℕ) → padded (length xs) xs ≡ xs
padded-all xs = ap (padded (length xs)) (sym (append-nil xs)) ∙ padded-front xs []

-- Where all are there
pub padded-take : (k : ℕ) (s : List ℕ) → k ≤ length s → padded k s ≡ take k s
unfolding padded
padded-take zero s h = refl
padded-take (suc k) [] h = absurd (omega arith)
padded-take (suc k) (x ∷ s) h = ap {B = List ℕ} (λ l. x ∷ l) (padded-take k s (omega arith))

pub length-padded : (k : ℕ) (s : List ℕ) → length (padded k s) ≡ k
unfolding padded
length-padded zero s = refl
length-padded (suc k) s = ap suc (length-padded k (drop 1 s))

padded-last : (k : ℕ) (s : List ℕ) → padded (suc k) s ≡ padded k s ++ get_or s k 0 ∷ []
unfolding padded
padded-last zero s = refl
padded-last (suc k) s =
    let e : get_or (drop 1 s) k 0 ≡ get_or s (suc k) 0 = get_or-drop 1 s k 0 ∙ ap (λ m. get_or s m 0) (omega arith) in
    ap {B = List ℕ} (λ l. get_or s 0 0 ∷ l) (padded-last k (drop 1 s) ∙ ap (λ x. padded k (drop 1 s) ++ x ∷ []) e)

pub padded_last : (k : ℕ) (s : List ℕ) → padded (k + 1) s ≡ padded k s ++ get_or s k 0 ∷ []
padded_last k s = rw add-one (padded-last k s)

pub small_drop : (k : ℕ) {s r : List ℕ} → Small s → r ≡ drop k s → Small r
small_drop k {s} h e = record { at = λ j. rw (e, get_or-drop k s j 0) (h.at (k + j)) }

-- An index is at most twice the row's
pub entry-small : (s : Step) (i : ℕ) → entry_of s i ≤ 2 * i
entry-small s i = omega (arith, mod-le (i + i / s.common) s.size, div-le_self i s.common)

pub first_row-small : (s : List Step) (i : ℕ) → first_row s i ≤ i
unfolding first_row
first_row-small [] i = omega arith
first_row-small (a ∷ s) i = omega (arith, mod-le (first_row s i) a.tuples, first_row-small s i)
