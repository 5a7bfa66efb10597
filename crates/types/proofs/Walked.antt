-- The types one after another: what was noted and what the types left tell come to all.
use Prim.Native.Nat.{ℕ, suc, ◌+◌, ◌*◌, ◌≤◌, ◌<◌}
use native.Mathlib.Numerals.{add-one}
use native.Mathlib.Omega.{arith}
use mathlib.Core.Path.{◌≡◌, refl, sym, ap, ◌∙◌}
use mathlib.Core.List.{List, [], ◌∷◌}
use lib.ListN.{length, get_or, drop, drop_of_length-le}
use lib.Seq.{drop-drop, drop-cons}
use Rattle.counting.proofs.Laws.Index.{at-get_or, each-from-at}
use Rattle.counting.specs.Index.{At}
use Rattle.counting.proofs.Laws.Lines.{each_at, each-length}
use Rattle.orm.specs.Diagram.{ObjectType}
use Rattle.orm.specs.Form.{type_of}
use Rattle.orm.specs.WellFormed.{TypeForm}
use Rattle.faults.specs.Faults.{Fault, lowered, faults_of}
use Rattle.faults.specs.Laws.Lowest.{lowered-then}
use Rattle.table.specs.Positions.{type_count, diagram_of}
use Rattle.order.specs.Parts.{scratch-still}
use Rattle.blocks.specs.Blocks.{contents, type_width, members_at, population_at}
use Rattle.blocks.specs.Starts.{Populated, Located, type-block}
use Rattle.playing.specs.Places.{population_of}
use Rattle.types.specs.Members.{Room}

module _ (t : List ℕ) where
  type_at : (i : ℕ) → i < type_count t → At (type_of (drop (2 + 6 * i) t)) (diagram_of t).types i
  unfolding diagram_of
  type_at i h = rw (drop-drop (6 * i) 2 t) at (each_at type_of 6 (type_count t) (drop 2 t) i h)

  types_are : length (diagram_of t).types ≡ type_count t
  unfolding diagram_of
  types_are = each-length type_of 6 (type_count t) (drop 2 t)

  pub type-most : (s : List ℕ) (i : ℕ) {line m : ℕ} → Populated t s → i < m → m ≡ type_count t → line ≡ 2 + 6 * i → (type_of (drop line t)).max ≤ 4096
  type-most s i q h f e = rw e (each-from-at (TypeForm (diagram_of t).types) 1 q.valid.formed.types (type_at i (rw f at h))).most

members-long : {X A : Type 0} (width : X → ℕ) (content : X → List ℕ → A) (xs : List X) (s : List ℕ) → length (contents width content xs s) ≡ length xs
unfolding contents
members-long width content [] s = refl
members-long width content (x ∷ xs) s = ap suc (members-long width content xs _)

-- The faults that were noted `of` the first i types, and those of the types left, come to all
pub record Left (of : ℕ → ObjectType → List ℕ → List Fault) (t s e₀ e : List ℕ) (i : ℕ) : Type 0 where
  rest : lowered (faults_of of (i + 1) (drop i (diagram_of t).types) (drop i (population_of t s).types)) e
      ≡ lowered (faults_of of 1 (diagram_of t).types (population_of t s).types) e₀

module _ (of : ℕ → ObjectType → List ℕ → List Fault) (t s starts e₀ : List ℕ) where
  pub left-start : Left of t s e₀ e₀ 0
  left-start = record { rest = refl }

  module _ (e : List ℕ) (i : ℕ) (x : Left of t s e₀ e i) where
    pub left-more : {e' : List ℕ} {m : ℕ} (line k n : ℕ) → Located t s starts → i < m → m ≡ type_count t
        → e' ≡ lowered (of n (type_of (drop line t)) (members_at (drop (get_or starts k 0) s))) e
        → line ≡ 2 + 6 * i → k ≡ i → n ≡ i + 1 → Left of t s e₀ e' (i + 1)
    unfolding faults_of population_at
    left-more line j n l h c f p q r =
        let k : i < length (diagram_of t).types = omega (arith, types_are t) in
        let m : i < length (population_of t s).types = omega (arith, members-long type_width (λ (u : ObjectType). members_at) (diagram_of t).types s) in
        let a = at-get_or (type_of []) (type_at t i (rw c at h)) in
        let b = type-block l i k in
        record {
          rest = rw (f, p, q, r, add-one i, add-one (suc i), ← a, b)
              (sym (lowered-then (of (suc i) (get_or (diagram_of t).types i (type_of [])) (get_or (population_of t s).types i [])) _ e)
              ∙ (rw (add-one i, drop-cons (diagram_of t).types i (type_of []) k, drop-cons (population_of t s).types i [] m) at x.rest));
        }

    pub left-none : {m : ℕ} → m ≤ i → m ≡ type_count t → e ≡ lowered (faults_of of 1 (diagram_of t).types (population_of t s).types) e₀
    unfolding faults_of lowered
    left-none h c =
        let k : length (diagram_of t).types ≤ i = omega (arith, types_are t) in rw (drop_of_length-le (diagram_of t).types k) at x.rest

-- scratch as long as at first
pub still-room : (s list₀ spare₀ list spare : List ℕ) → Room s list₀ spare₀ → length list ≡ length list₀ → length spare ≡ length spare₀ → Room s list spare
still-room s list₀ spare₀ list spare r m n =
    record { scratch = scratch-still list₀ spare₀ r.scratch m n; even = omega (arith, r.even); enough = omega (arith, r.enough) }
