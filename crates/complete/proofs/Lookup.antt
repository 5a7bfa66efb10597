-- What the tuples of some parts, one after another, give for the roles of one part: its own tuple.
use Prim.Native.Nat.{ℕ, suc, ◌+◌}
use Rattle.std.specs.Prelude.{◌≡◌, length, get_or}
use Rattle.std.proofs.Math.Path.{refl}
use Rattle.std.proofs.Common.{sym, ap₂, ◌∙◌, arith, eq-eqb, ne_eqb}
use mathlib.Core.List.{List, [], ◌∷◌, map, map-append, flat_map, flatten, zip_with}
use Rattle.std.proofs.Math.Nat.{suc_inj}
use Rattle.std.proofs.Math.ListN.{length-append}
use Rattle.std.proofs.lemmas.List.{length-map}
use Rattle.counting.specs.Index.{At, first, later}
use Rattle.counting.proofs.Laws.Maps.{append_inj, map_congr}
use Rattle.counting.proofs.Laws.Members.{apart}
use Rattle.counting.specs.Terms.{NoRepeats}
use Rattle.orm.specs.Populate.{lookup}
use Rattle.orm.specs.Sets.{Part}

lookup-here : (p : ℕ) (ss : List ℕ) (j : ℕ) (js : List ℕ) → lookup p (p ∷ ss) (j ∷ js) ≡ j
unfolding lookup
lookup-here p ss j js = rw (eq-eqb p p refl, lookup)

lookup-there : (p s : ℕ) (ss : List ℕ) (j : ℕ) (js : List ℕ) → ¬ (p ≡ s) → lookup p (s ∷ ss) (j ∷ js) ≡ lookup p ss js
unfolding lookup
lookup-there p s ss j js n = rw (ne_eqb s p (λ e. n (sym e)), lookup)

-- Looked up for each role in turn, the entries come out as they stand
lookup-all : (ss js : List ℕ) → NoRepeats ss → length ss ≡ length js → map (λ p. lookup p ss js) ss ≡ js
lookup-all [] [] u l = refl
lookup-all [] (j ∷ js) u l = absurd (omega arith)
lookup-all (s ∷ ss) [] u l = absurd (omega arith)
lookup-all (s ∷ ss) (j ∷ js) u l =
    ap₂ ◌∷◌ (lookup-here s ss j js) (map_congr _ _ ss (λ p m. lookup-there p s ss j js (apart u.0 m)) ∙ lookup-all ss js u.1 (suc_inj l))

abbrev roles_of : List Part → List ℕ
roles_of bs = flat_map (λ (b : Part). b.roles) bs

-- `f b j` is tuple `j` of the part `b`
module _ (f : Part → ℕ → List ℕ) where
  abbrev tuples_of : List Part → List ℕ → List ℕ
  tuples_of bs js = flatten (zip_with f bs js)

  -- An index for each part, and its tuple as long as the part's roles
  abbrev pub Tupled : List Part → List ℕ → Type 0
  Tupled bs js = (length bs ≡ length js) × ((k : ℕ) (b : Part) → At b bs k → length b.roles ≡ length (f b (get_or js k 0)))

  tupled_tail : (b : Part) (bs : List Part) (j : ℕ) (js : List ℕ) → Tupled (b ∷ bs) (j ∷ js) → Tupled bs js
  tupled_tail b bs j js s = (suc_inj s.0, λ k b n. s.1 (suc k) b (later n))

  tupled_length : (bs : List Part) (js : List ℕ) → Tupled bs js → length (roles_of bs) ≡ length (tuples_of bs js)
  unfolding flat_map flatten zip_with
  tupled_length [] [] s = refl
  tupled_length [] (j ∷ js) s = refl
  tupled_length (b ∷ bs) [] s = absurd (omega arith)
  tupled_length (b ∷ bs) (j ∷ js) s = simp length-append (ap₂ ◌+◌ (s.1 0 b (first refl)) (tupled_length bs js (tupled_tail b bs j js s)))

  -- What agrees with all tuples agrees with the first and with the others
  parted : (g : ℕ → ℕ) (b : Part) (bs : List Part) (j : ℕ) (js : List ℕ) → Tupled (b ∷ bs) (j ∷ js)
      → map g (roles_of (b ∷ bs)) ≡ tuples_of (b ∷ bs) (j ∷ js)
      → (map g b.roles ≡ f b j) × (map g (roles_of bs) ≡ tuples_of bs js)
  unfolding flat_map flatten zip_with
  parted g b bs j js s e =
      append_inj (map g b.roles) (f b j) (map g (roles_of bs)) (tuples_of bs js) (length-map b.roles g ∙ s.1 0 b (first refl))
      (sym (map-append g b.roles (roles_of bs)) ∙ e)

  one-part : (g : ℕ → ℕ) (bs : List Part) (js : List ℕ) {k : ℕ} {b : Part} → Tupled bs js → map g (roles_of bs) ≡ tuples_of bs js → At b bs k
      → map g b.roles ≡ f b (get_or js k 0)
  one-part g [] js {k = k} {b = b} s e h = elim h [ ]
  one-part g (b ∷ bs) [] s e h = absurd (omega arith)
  one-part g (b ∷ bs) (j ∷ js) s e (first q) = rw q (parted g b bs j js s e).0
  one-part g (b ∷ bs) (j ∷ js) s e (later h) = one-part g bs js (tupled_tail b bs j js s) (parted g b bs j js s e).1 h

  pub lookup-part : (bs : List Part) (js : List ℕ) {k : ℕ} {b : Part} → NoRepeats (roles_of bs) → Tupled bs js → At b bs k
      → map (λ p. lookup p (roles_of bs) (tuples_of bs js)) b.roles ≡ f b (get_or js k 0)
  lookup-part bs js u s h = one-part _ bs js s (lookup-all (roles_of bs) (tuples_of bs js) u (tupled_length bs js s)) h
