-- The reading of types, each tested against those before it: it reads just those with no fault of form, each from its line.
use Prim.Native.Nat.{ℕ, zero, suc, ◌+◌, ◌≤◌, ◌<◌}
use Rattle.std.proofs.Math.Path.{◌≡◌, refl}
use Rattle.std.proofs.Common.{sym, ap, subst}
use Rattle.std.specs.Prelude.{◌↔◌, length}
use mathlib.Core.List.{List, [], ◌∷◌, ◌++◌, map, append_assoc}
use Rattle.std.proofs.Math.Nat.{suc_inj}
use Rattle.std.proofs.Math.Decide.{dec_le}
use native.Mathlib.Omega.{arith}
use Rattle.std.proofs.Math.ListN.{length-append, length-map, get_or-eq_default}
use Rattle.counting.proofs.Laws.Index.{at_append_left, at_append_right, below_at}
use Rattle.counting.specs.Index.{At, first}
use Rattle.counting.specs.Terms.{EachFrom}
use Rattle.orm.specs.Diagram.{ObjectType, LineKind, line_of_type, index}
use Rattle.orm.specs.Supertypes.{super_at, first_value, last_value}
use Rattle.orm.specs.Reader.{Cut}
use Rattle.orm.specs.Form.{types_after}
use Rattle.orm.specs.WellFormed.{TypeForm}
use Rattle.orm.proofs.Laws.Supertypes.{super_at_nth, first_value-more, last_value-more}
use Rattle.orm.specs.Climbs.{Supers}
use Rattle.reading.specs.Exact.{Exact, exact_as, pure-exact, ConsForm, ConsLines, cons-exact}
use Rattle.reading.specs.Lines.{Cuts}
use Rattle.reading.specs.Kinds.{type-exact}

-- So many types, one after another, after these
abbrev pub NextTypes : List ObjectType → ℕ → List ObjectType → Type 0
NextTypes before zero [] = Unit {0}
NextTypes before zero (t ∷ ts) = ⊥
NextTypes before (suc k) [] = ⊥
NextTypes before (suc k) (t ∷ ts) = TypeForm before (suc (length before)) t × NextTypes (before ++ t ∷ []) k ts

pub next-types-length : (before : List ObjectType) (k : ℕ) (ts : List ObjectType) → NextTypes before k ts → length ts ≡ k
next-types-length before zero [] w = refl
next-types-length before zero (t ∷ ts) w = absurd w
next-types-length before (suc k) [] w = absurd w
next-types-length before (suc k) (t ∷ ts) w = ap suc (next-types-length (before ++ t ∷ []) k ts w.1)

-- ---- the same among all types

-- A type has no fault also among other types that give its supertype the same values
form_as : (us vs : List ObjectType) {number : ℕ} {t : ObjectType}
    → (¬ (t.super ≡ 0) → (first_value us (index t.super) ≡ first_value vs (index t.super))
    × (last_value us (index t.super) ≡ last_value vs (index t.super)))
    → TypeForm us number t → TypeForm vs number t
form_as us vs same f = record {
  some = f.some;
  sizes = f.sizes;
  most = f.most;
  above = f.above;
  values = f.values;
  within = λ r n. let (e, e') = same n in rw (← e, ← e') (f.within r n);
  largest = f.largest;
  indep = f.indep;
}

-- It is tested against those before it as against all of them
module _ (before later : List ObjectType) (supers : Supers before) (t : ObjectType) where
  form-more : TypeForm before (suc (length before)) t ↔ TypeForm (before ++ later) (suc (length before)) t
  form-more = (
    λ f. form_as before (before ++ later) (λ n. let (e, e') = same f.above n in (sym e, sym e')) f,
    λ f. form_as (before ++ later) before (same f.above) f,
  )
    where
      same : t.super < suc (length before) → ¬ (t.super ≡ 0)
          → (first_value (before ++ later) (index t.super) ≡ first_value before (index t.super))
          × (last_value (before ++ later) (index t.super) ≡ last_value before (index t.super))
      same h n =
          let below : index t.super < length before = omega arith in
          (first_value-more before later supers (index t.super) below, last_value-more before later supers (index t.super) below)

  -- SUPER of one type more
  supers-more : t.super ≤ length before → Supers (before ++ t ∷ [])
  supers-more s a = go (dec_le (suc a) (length before)) (dec_le (suc a) (suc (length before)))
    where
      long : length (before ++ t ∷ []) ≡ length before + 1
      long = length-append before (t ∷ [])

      go : Dec (a < length before) → Dec (a < suc (length before)) → super_at (before ++ t ∷ []) a ≤ a
      go (yes h) k = let (u, n) = below_at before a h in omega (arith, super_at_nth (at_append_left (t ∷ []) n), super_at_nth n, supers a)
      go (no h) (yes k) =
          let e : length before + 0 ≡ a = omega arith in
          omega (arith, super_at_nth {a = a} (subst (At t (before ++ t ∷ [])) e (at_append_right before (first refl))))
      go (no h) (no k) =
          unfold super_at in omega (
            arith,
            get_or-eq_default (map (λ (t : ObjectType). t.super) (before ++ t ∷ [])) 0 {n = a} (rw length-map (omega (arith, long))),
          )

next-types-iff : (before : List ObjectType) (k : ℕ) (ts : List ObjectType) → Supers before → length ts ≡ k
    → NextTypes before k ts ↔ EachFrom (TypeForm (before ++ ts)) (suc (length before)) ts
next-types-iff before zero [] s e = (λ w. tt, λ w. tt)
next-types-iff before zero (t ∷ ts) s e = absurd (omega arith)
next-types-iff before (suc k) [] s e = absurd (omega arith)
next-types-iff before (suc k) (t ∷ ts) s e = (
  λ (one, others). (
    (form-more before (t ∷ ts) s t).0 one,
    all.0 ((next-types-iff (before ++ t ∷ []) k ts (supers-more before ts s t (omega (arith, one.above))) (suc_inj e)).0 others),
  ),
  λ (one, others). (
    (form-more before (t ∷ ts) s t).1 one,
    (next-types-iff (before ++ t ∷ []) k ts (supers-more before ts s t (omega (arith, one.above))) (suc_inj e)).1 (all.1 others),
  ),
)
  where
    number : suc (length (before ++ t ∷ [])) ≡ suc (suc (length before))
    number = omega (arith, length-append before (t ∷ []))

    all : EachFrom (TypeForm ((before ++ t ∷ []) ++ ts)) (suc (length (before ++ t ∷ []))) ts
        ↔ EachFrom (TypeForm (before ++ t ∷ ts)) (suc (suc (length before))) ts
    all = rw (append_assoc before (t ∷ []) ts, number) (λ h. h, λ h. h)

-- All types of a diagram
pub all-types-iff : (ts : List ObjectType) → NextTypes [] (length ts) ts ↔ EachFrom (TypeForm ts) 1 ts
all-types-iff ts = next-types-iff [] (length ts) ts (λ a. unfold super_at in omega arith) refl

-- ---- the reading

module _ (form : LineKind → List ℕ → List ℕ) (next : LineKind → List ℕ → Cut) (cuts : Cuts form next) where
  pub types-exact : (before : List ObjectType) (k : ℕ) → length before + k ≤ 32
      → Exact form (types_after next before k) (NextTypes before k) (map line_of_type)
  unfolding types_after
  types-exact before zero bound = exact_as form none-form (λ ts e. rw e) (pure-exact form [])
    where
      none-form : (ts : List ObjectType) → (ts ≡ []) ↔ NextTypes before zero ts
      none-form [] = (λ e. tt, λ h. refl)
      none-form (t ∷ ts) = (λ e. let z : ◌≡◌ {A = ℕ} 0 1 = cc in absurd (omega arith), λ h. absurd h)
  types-exact before (suc k) bound =
      exact_as form cons-form cons-lines (cons-exact form One Others (λ t. line_of_type t ∷ []) (map line_of_type) _ _
      (type-exact form next cuts (suc (length before)) before (omega arith))
      (λ t w. types-exact (before ++ t ∷ []) k (omega (arith, length-append before (t ∷ [])))))
    where
      One : ObjectType → Type 0
      One t = TypeForm before (suc (length before)) t

      Others : ObjectType → List ObjectType → Type 0
      Others t = NextTypes (before ++ t ∷ []) k

      cons-form : (ts : List ObjectType) → ConsForm form One Others ts ↔ NextTypes before (suc k) ts
      cons-form [] = (λ h. h, λ h. h)
      cons-form (t ∷ ts) = (λ h. h, λ h. h)

      cons-lines : (ts : List ObjectType) → ConsForm form One Others ts
          → ConsLines form One Others (λ t. line_of_type t ∷ []) (map line_of_type) ts ≡ map line_of_type ts
      cons-lines [] w = absurd w
      cons-lines (t ∷ ts) w = refl
