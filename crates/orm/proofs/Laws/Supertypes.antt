-- The types above a type: what the climbs reach, where the ranges of subtypes start, and that types read later change nothing.
use Prim.Native.Nat.{ℕ, zero, suc, ◌≤◌, ◌<◌}
use Rattle.std.proofs.Math.Path.{◌≡◌, refl, ap, ap₂}
use Rattle.std.proofs.Common.{sym, ◌∙◌, inl, arith, eq-eqb, ne_eqb}
use Rattle.std.specs.Prelude.{Bool, List, ◌++◌, map, length}
use Rattle.std.proofs.Math.Bool.{true, false}
use Rattle.std.proofs.Math.Nat.{le_refl}
use Rattle.std.proofs.Math.Decide.{dec_le, ℕ_discrete}
use Rattle.std.proofs.Math.Dec.{eqb}
use Rattle.std.proofs.Math.ListN.{length-map, get_or-eq_default}
use Rattle.counting.proofs.Laws.Index.{at_append_left, at-get_or, at_map, below_at, each-from-at}
use Rattle.counting.specs.Index.{At}
use Rattle.counting.specs.Terms.{EachFrom}
use Rattle.orm.specs.Diagram.{ObjectType, index}
use Rattle.orm.specs.Supertypes.{super_at, first_at, last_at, climb, is_root_at, root, first_value, has_range, has_range_at, nearest, last_value}
use Rattle.orm.specs.Meaning.{HasRange}
use Rattle.orm.specs.WellFormed.{TypeForm}
use Rattle.orm.proofs.Laws.Decided.{has_range_decides}
use Rattle.orm.specs.Climbs.{Supers, Reached, itself, above}

-- The type at an index
module _ {ts : List ObjectType} {a : ℕ} {t : ObjectType} (h : At t ts a) where
  pub super_at_nth : super_at ts a ≡ t.super
  unfolding super_at
  super_at_nth = at-get_or {A = ℕ} 0 (at_map _ h)

  first_at_nth : first_at ts a ≡ t.first
  unfolding first_at
  first_at_nth = at-get_or {A = ℕ} 0 (at_map _ h)

  last_at_nth : last_at ts a ≡ t.last
  unfolding last_at
  last_at_nth = at-get_or {A = ℕ} 0 (at_map _ h)

  has_range_at_nth : has_range_at ts a ≡ has_range t
  unfolding has_range_at
  has_range_at_nth = at-get_or {A = Bool} true (at_map _ h)

-- whichever types they stand among
pub form-supers : (us ts : List ObjectType) → EachFrom (TypeForm us) 1 ts → Supers ts
form-supers us ts form a = go (dec_le (suc a) (length ts))
  where
    go : Dec (a < length ts) → super_at ts a ≤ a
    go (yes h) = let (t, n) = below_at ts a h in omega (arith, (each-from-at (TypeForm us) 1 form n).above, super_at_nth n)
    go (no h) =
        unfold super_at in omega (arith, get_or-eq_default (map (λ (t : ObjectType). t.super) ts) 0 {n = a} (rw length-map (omega arith)))

-- ---- climbs

module _ (ends : ℕ → Bool) (ts : List ObjectType) (supers : Supers ts) where
  climb-below : (k a : ℕ) → climb ends ts k a ≤ a
  unfolding climb
  climb-below zero a = le_refl a
  climb-below (suc k) a = go (ends a) (climb-below k (index (super_at ts a)))
    where
      go : (b : Bool) → climb ends ts k (index (super_at ts a)) ≤ index (super_at ts a)
          → elim b [ true ↦ a | false ↦ climb ends ts k (index (super_at ts a)) ] ≤ a
      go true h = le_refl a
      go false h = omega (arith, supers a)

  -- where it ends at every root
  module _ (roots : (a : ℕ) → super_at ts a ≡ 0 → ends a ≡ true) where
    -- steps as many as the type's index are enough
    climb-enough : (k l a : ℕ) → a ≤ k → a ≤ l → climb ends ts k a ≡ climb ends ts l a
    unfolding climb
    climb-enough zero zero a h h' = refl
    climb-enough zero (suc l) a h h' = rw (roots a (omega (arith, supers a)), climb)
    climb-enough (suc k) zero a h h' = rw (roots a (omega (arith, supers a)), climb)
    climb-enough (suc k) (suc l) a h h' =
        go (ends a) (climb-enough k l (index (super_at ts a)) (omega (arith, supers a)) (omega (arith, supers a)))
      where
        go : (b : Bool) → climb ends ts k (index (super_at ts a)) ≡ climb ends ts l (index (super_at ts a))
            → ◌≡◌ {A = ℕ} (elim b [ true ↦ a | false ↦ climb ends ts k (index (super_at ts a)) ])
            (elim b [ true ↦ a | false ↦ climb ends ts l (index (super_at ts a)) ])
        go true e = refl
        go false e = e

    climb-reached : (k a : ℕ) → a ≤ k → Reached ends ts a (climb ends ts k a)
    unfolding climb
    climb-reached zero a l = itself {a = a} (roots a (omega (arith, supers a)))
    climb-reached (suc k) a l = go (ends a) refl (λ m. climb-reached k (index (super_at ts a)) m)
      where
        go : (b : Bool) → ends a ≡ b
            → (index (super_at ts a) ≤ k → Reached ends ts (index (super_at ts a)) (climb ends ts k (index (super_at ts a))))
            → Reached ends ts a (elim b [ true ↦ a | false ↦ climb ends ts k (index (super_at ts a)) ])
        go true e ih = itself e
        go false e ih = above e (ih (omega (arith, supers a)))

  climb-itself : (k a : ℕ) → ends a ≡ true → climb ends ts k a ≡ a
  unfolding climb
  climb-itself zero a e = refl
  climb-itself (suc k) a e = rw (e, climb)

-- types that are read later change nothing
module _ (ends ends' : ℕ → Bool) (ts later : List ObjectType) (supers : Supers ts)
    (same-super : (a : ℕ) → a < length ts → super_at (ts ++ later) a ≡ super_at ts a) (same : (a : ℕ) → a < length ts → ends' a ≡ ends a) where
  climb-more : (k a : ℕ) → a < length ts → climb ends' (ts ++ later) k a ≡ climb ends ts k a
  unfolding climb
  climb-more zero a h = refl
  climb-more (suc k) a h =
      ap₂ (λ (b : Bool) (s : ℕ). elim b as (λ _. ℕ) [ true ↦ a | false ↦ climb ends' (ts ++ later) k (index s) ]) (same a h) (same-super a h)
      ∙ go (ends a) (climb-more k (index (super_at ts a)) (omega (arith, supers a)))
    where
      go : (b : Bool) → climb ends' (ts ++ later) k (index (super_at ts a)) ≡ climb ends ts k (index (super_at ts a))
          → ◌≡◌ {A = ℕ} (elim b [ true ↦ a | false ↦ climb ends' (ts ++ later) k (index (super_at ts a)) ])
          (elim b [ true ↦ a | false ↦ climb ends ts k (index (super_at ts a)) ])
      go true e = refl
      go false e = e

-- ---- to the root

root_ends : (ts : List ObjectType) (a : ℕ) → super_at ts a ≡ 0 → is_root_at ts a ≡ true
unfolding is_root_at
root_ends ts a e = eq-eqb (super_at ts a) 0 e

module _ (ts : List ObjectType) (supers : Supers ts) where
  first-itself : (a : ℕ) → super_at ts a ≡ 0 → first_value ts a ≡ first_at ts a
  unfolding first_value root
  first-itself a e = ap (first_at ts) (climb-itself (is_root_at ts) ts supers a a (root_ends ts a e))

  -- A subtype's first value is that of its supertype
  pub first-super : (a : ℕ) → ¬ (super_at ts a ≡ 0) → first_value ts a ≡ first_value ts (index (super_at ts a))
  unfolding first_value root climb is_root_at
  first-super zero n = absurd (n (omega (arith, supers 0)))
  first-super (suc a) n =
      let above : ℕ = index (super_at ts (suc a)) in
      let below : above ≤ a = omega (arith, supers (suc a)) in
      ap (first_at ts) (rw (ne_eqb (super_at ts (suc a)) 0 n, climb)
      (climb-enough (is_root_at ts) ts supers (root_ends ts) a above above below (le_refl above)))

  pub root-reached : (a : ℕ) → Reached (is_root_at ts) ts a (root ts a)
  unfolding root
  root-reached a = climb-reached (is_root_at ts) ts supers (root_ends ts) a a (le_refl a)

-- ---- to the nearest type that gives FIRST and LAST

-- A root gives them, and so does what is not there
root-gives : (ts : List ObjectType) (a : ℕ) → super_at ts a ≡ 0 → has_range_at ts a ≡ true
root-gives ts a e = go (dec_le (suc a) (length ts))
  where
    go : Dec (a < length ts) → has_range_at ts a ≡ true
    go (yes h) = let (t, n) = below_at ts a h in has_range_at_nth n ∙ (has_range_decides t).1 (inl (sym (super_at_nth n) ∙ e))
    go (no h) = unfold has_range_at in get_or-eq_default (map has_range ts) true {n = a} (rw length-map (omega arith))

pub nearest-reached : (ts : List ObjectType) → Supers ts → (a : ℕ) → Reached (has_range_at ts) ts a (nearest ts a)
unfolding nearest
nearest-reached ts supers a = climb-reached (has_range_at ts) ts supers (root-gives ts) a a (le_refl a)

-- ---- the types of a well-formed diagram

module _ (ts : List ObjectType) (form : EachFrom (TypeForm ts) 1 ts) {a : ℕ} {t : ObjectType} (h : At t ts a) where
  -- 'FIRST is its root's FIRST'
  pub range_first : HasRange t → first_value ts a ≡ t.first
  range_first r = go (ℕ_discrete t.super 0)
    where
      supers : Supers ts
      supers = form-supers ts ts form

      go : Dec (t.super ≡ 0) → first_value ts a ≡ t.first
      go (yes e) = first-itself ts supers a (super_at_nth h ∙ e) ∙ first_at_nth h
      go (no n) =
          let i = super_at_nth h in
          (rw i at (first-super ts supers a (λ z. n (sym i ∙ z)))) ∙ sym ((each-from-at (TypeForm ts) 1 form h).within r n).0

-- ---- types that are read later change nothing

module _ (ts later : List ObjectType) (supers : Supers ts) where
  module _ (a : ℕ) (h : a < length ts) where
    super_at-more : super_at (ts ++ later) a ≡ super_at ts a
    super_at-more = let (t, n) = below_at ts a h in super_at_nth (at_append_left later n) ∙ sym (super_at_nth n)

    first_at-more : first_at (ts ++ later) a ≡ first_at ts a
    first_at-more = let (t, n) = below_at ts a h in first_at_nth (at_append_left later n) ∙ sym (first_at_nth n)

    last_at-more : last_at (ts ++ later) a ≡ last_at ts a
    last_at-more = let (t, n) = below_at ts a h in last_at_nth (at_append_left later n) ∙ sym (last_at_nth n)

    is_root_at-more : is_root_at (ts ++ later) a ≡ is_root_at ts a
    unfolding is_root_at
    is_root_at-more = ap (λ (s : ℕ). eqb s 0) super_at-more

    has_range_at-more : has_range_at (ts ++ later) a ≡ has_range_at ts a
    has_range_at-more = let (t, n) = below_at ts a h in has_range_at_nth (at_append_left later n) ∙ sym (has_range_at_nth n)

  pub first_value-more : (a : ℕ) → a < length ts → first_value (ts ++ later) a ≡ first_value ts a
  unfolding first_value root
  first_value-more a h =
      ap (first_at (ts ++ later)) (climb-more (is_root_at ts) (is_root_at (ts ++ later)) ts later supers super_at-more is_root_at-more a a h)
      ∙ first_at-more _ (omega (arith, climb-below (is_root_at ts) ts supers a a))

  pub last_value-more : (a : ℕ) → a < length ts → last_value (ts ++ later) a ≡ last_value ts a
  unfolding last_value nearest
  last_value-more a h =
      ap (last_at (ts ++ later)) (climb-more (has_range_at ts) (has_range_at (ts ++ later)) ts later supers super_at-more has_range_at-more a a h)
      ∙ last_at-more _ (omega (arith, climb-below (has_range_at ts) ts supers a a))
