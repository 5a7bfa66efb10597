-- The places of the roles that pass a test: what `select` makes.
use Rattle.std.specs.Prelude.{ℕ, suc, ◌+◌, ◌≤◌, ◌<◌, ◌≡◌, Bool, eqb, leb, length}
use Rattle.std.proofs.Math.Path.{refl, ap}
use Rattle.std.proofs.Common.{sym, ◌∙◌, add-zero, suc-add, arith, eq-eqb, ne_eqb, le-leb}
use Rattle.std.proofs.Math.Bool.{true, false}
use Rattle.std.proofs.lemmas.Bool.{false≢true, lt-leb}
use mathlib.Core.List.Memᴰ
use mathlib.Core.List.Memᴰ.{head as here}
use mathlib.Core.List.Memᴰ.{tail as there}
use mathlib.Core.List.{List, [], ◌∷◌, map}
use Rattle.std.proofs.Math.Nat.{add-suc}
use Rattle.std.proofs.Math.Decide.{dec_le, ℕ_discrete}
use Rattle.counting.specs.Terms.{◌∈◌, NoRepeats}
use Rattle.counting.specs.Index.{At, first, later}
use Rattle.orm.specs.Diagram.{Role}
use Rattle.orm.specs.Sets.{select}

-- `Selected test n rs ss`: ss are the places, counted from n, of those in rs that pass
data Selected (test : Role → Bool) : ℕ → List Role → List ℕ → Type 0 where
  none : {n : ℕ} → Selected test n [] []
  kept : {n : ℕ} {r : Role} {rs : List Role} {ss : List ℕ} → test r ≡ true → Selected test (suc n) rs ss → Selected test n (r ∷ rs) (n ∷ ss)
  left : {n : ℕ} {r : Role} {rs : List Role} {ss : List ℕ} → test r ≡ false → Selected test (suc n) rs ss → Selected test n (r ∷ rs) ss

module _ {test : Role → Bool} where
  selected-of : {n : ℕ} {rs : List Role} {ss : List ℕ} {s : ℕ} → Selected test n rs ss → s ∈ ss
      → (k : ℕ) × (r : Role) × At r rs k × (s ≡ n + k) × (test r ≡ true)
  selected-of none m = absurd (Memᴰ.not-nil m)
  selected-of (kept {r = r} t g) (here e) = (0, r, first refl, e ∙ sym (add-zero _), t)
  selected-of (kept t g) (there m) = let (k, r, h, e, t) = selected-of g m in (suc k, r, later h, omega arith, t)
  selected-of (left t g) m = let (k, r, h, e, t) = selected-of g m in (suc k, r, later h, omega arith, t)

  selected_in : {n : ℕ} {rs : List Role} {ss : List ℕ} {k : ℕ} {r : Role} → Selected test n rs ss → At r rs k → test r ≡ true → n + k ∈ ss
  selected_in {k = k} {r = r} (none {n = n}) x9 t' = elim x9 [ ]
  selected_in (kept t g) (first e) t' = here (add-zero _)
  selected_in (kept {n = n} t g) (later {i = k} h) t' = rw (add-suc n k, ← suc-add n k) (there (selected_in g h t'))
  selected_in (left t g) (first e) t' = absurd (false≢true (sym t ∙ rw e at t'))
  selected_in (left {n = n} t g) (later {i = k} h) t' = rw (add-suc n k, ← suc-add n k) (selected_in g h t')

  selected_no_repeats : {n : ℕ} {rs : List Role} {ss : List ℕ} → Selected test n rs ss → NoRepeats ss
  selected_no_repeats none = tt
  selected_no_repeats (kept t g) = (λ m. omega (arith, (selected-of g m).3), selected_no_repeats g)
  selected_no_repeats (left t g) = selected_no_repeats g

module _ (test : Role → Bool) where
  selected : (n : ℕ) (rs : List Role) → Selected test n rs (select test n rs)
  unfolding select
  selected n [] = none
  selected n (r ∷ rs) = go (test r) refl (selected (suc n) rs)
    where
      go : (b : Bool) → test r ≡ b → Selected test (suc n) rs (select test (suc n) rs)
          → Selected test n (r ∷ rs) (elim b [ true ↦ n ∷ select test (suc n) rs | false ↦ select test (suc n) rs ])
      go true e g = kept e g
      go false e g = left e g

  pub of-select : (n : ℕ) (rs : List Role) {s : ℕ} → s ∈ select test n rs → (k : ℕ) × (r : Role) × At r rs k × (s ≡ n + k) × (test r ≡ true)
  of-select n rs m = selected-of (selected n rs) m

  pub in_select : (n : ℕ) {rs : List Role} {k : ℕ} {r : Role} → At r rs k → test r ≡ true → n + k ∈ select test n rs
  in_select n {rs} h t = selected_in (selected n rs) h t

  pub select_no_repeats : (n : ℕ) (rs : List Role) → NoRepeats (select test n rs)
  select_no_repeats n rs = selected_no_repeats (selected n rs)

  -- counting from elsewhere
  pub select-from : (n i : ℕ) (rs : List Role) → select test (n + i) rs ≡ map (λ j. n + j) (select test i rs)
  unfolding select
  select-from n i [] = refl
  select-from n i (r ∷ rs) = go (test r) (rw add-suc at (select-from n (suc i) rs))
    where
      go : (b : Bool) → select test (suc (n + i)) rs ≡ map (λ j. n + j) (select test (suc i) rs)
          → (elim b [ true ↦ (n + i) ∷ select test (suc (n + i)) rs | false ↦ select test (suc (n + i)) rs ]) ≡ map (λ j. n + j)
          (elim b [ true ↦ i ∷ select test (suc i) rs | false ↦ select test (suc i) rs ])
      go true e = ap (λ l. (n + i) ∷ l) e
      go false e = e

-- ---- a role has one type

-- How many roles have a type with at least this number
unfoldable pub played_from : ℕ → List Role → ℕ
played_from m [] = 0
played_from m (r ∷ rs) = elim (leb m r.type) [ true ↦ suc (played_from m rs) | false ↦ played_from m rs ]

pub played-few : (m : ℕ) (rs : List Role) → played_from m rs ≤ length rs
unfolding played_from
played-few m [] = omega arith
played-few m (r ∷ rs) = go (leb m r.type) (played-few m rs)
  where
    go : (b : Bool) → played_from m rs ≤ length rs
        → ◌≤◌ (elim b as (λ _. ℕ) [ true ↦ suc (played_from m rs) | false ↦ played_from m rs ]) (suc (length rs))
    go true h = omega arith
    go false h = omega arith

-- those of just this type, and those of the types behind it
pub played-split : (m i : ℕ) (rs : List Role)
    → length (select (λ (r : Role). eqb r.type m) i rs) + played_from (suc m) rs ≡ played_from m rs
unfolding played_from select
played-split m i [] = refl
played-split m i (r ∷ rs) = go (ℕ_discrete r.type m) (dec_le m r.type) (played-split m (suc i) rs)
  where
    go : Dec (r.type ≡ m) → Dec (m ≤ r.type)
        → length (select (λ (r : Role). eqb r.type m) (suc i) rs) + played_from (suc m) rs ≡ played_from m rs
        → length (select (λ (r : Role). eqb r.type m) i (r ∷ rs)) + played_from (suc m) (r ∷ rs) ≡ played_from m (r ∷ rs)
    go (yes e) _ h =
        let l : m ≤ r.type = omega arith in
        let u : r.type < suc m = omega arith in
        rw (eq-eqb r.type m e, lt-leb (suc m) r.type u, le-leb m r.type l, select, played_from) (omega arith)
    go (no n) (yes l) h =
        let u : suc m ≤ r.type = omega (arith, n) in
        rw (ne_eqb r.type m n, le-leb (suc m) r.type u, le-leb m r.type l, select, played_from) (omega arith)
    go (no n) (no l) h =
        let u : r.type < suc m = omega arith in
        let v : r.type < m = omega arith in
        rw (ne_eqb r.type m n, lt-leb (suc m) r.type u, lt-leb m r.type v, select, played_from) h
