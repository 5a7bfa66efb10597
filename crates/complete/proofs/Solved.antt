-- Sizes of a diagram's sets that respect its bounds and limits, and what each limit says of them.
use Rattle.std.specs.Prelude.{ℕ, suc, ◌+◌, ◌*◌, ◌/◌, ◌≤◌, ◌<◌, ◌≡◌, refl, Bool, true, not, get_or}
use Rattle.std.proofs.Math.Path.{sym}
use Rattle.std.proofs.Common.{◌∙◌, le_trans, zero-add, arith, eq-eqb, ne_eqb, length-append}
use mathlib.Core.List.Memᴰ
use mathlib.Core.List.Memᴰ.{head as here}
use mathlib.Core.List.Memᴰ.{tail as there}
use mathlib.Core.List.{List, [], ◌∷◌, ◌++◌, map, flat_map, flatten}
use Rattle.std.proofs.Math.Nat.{min-le_right, mul-one}
use Rattle.std.proofs.Math.ListN.{length}
use Rattle.std.proofs.lemmas.List.{length-map}
use Rattle.counting.proofs.Laws.Index.{at_append_left, at_append_right, at-below, at-get_or, at_in, at_map, at-map_from, each-from-at}
use Rattle.counting.specs.Index.{At}
use Rattle.counting.specs.Lists.{map_from}
use Rattle.counting.proofs.Laws.Members.{get_or_in, in_flat_map, in_flatten}
use Rattle.counting.proofs.Laws.Range.{in_up_from, of-up_from}
use Rattle.counting.specs.Terms.{◌∈◌}
use Rattle.counting.specs.Totals.{product_over, sum_over}
use Rattle.fixpoint.specs.Limits.{Limit, value_of}
use Rattle.fixpoint.specs.Notions.{Holds}
use Rattle.orm.specs.Diagram.{Diagram, Frequency, ObjectType, Predicate, Role, all_groups, all_roles, index, is_grouped, is_mandatory, is_root}
use Rattle.orm.specs.Populate.{size}
use Rattle.orm.specs.Sets.{Part, Placed, at_most, first_group, first_pred, first_role, group_roles, group_set, limit_of_rows, limits, limits_of_group, limits_of_pred, limits_of_role, limits_of_type, lower, only_if, parts, placed, roles_of_type, upper, upper_of_role, upper_of_type}
use Rattle.orm.specs.Meaning.{MustPlay}
use Rattle.orm.proofs.Laws.Bounds.{lower-positive}
use Rattle.orm.specs.WellFormed.{PredForm, TypeForm}
use Rattle.orm.proofs.Laws.Decided.{must_play_decides}
use Rattle.complete.proofs.Place.{group-sets, group_sets, placed_at, placed-role}
use Rattle.complete.specs.Solved.{Solved}

-- `lower` and `upper` are such lists
module _ (f : ObjectType → ℕ) (g : Predicate → ℕ) (h : Role → ℕ) (n : ℕ) (d : Diagram) where
  abbrev bounds : List ℕ
  bounds = map f d.types ++ map g d.preds ++ map h (all_roles d) ++ map (λ (q : Frequency). n) (all_groups d)

  bounds-type : {a : ℕ} {t : ObjectType} → At t d.types a → get_or bounds a 0 ≡ f t
  bounds-type i =
      at-get_or {A = ℕ} 0 (at_append_left (map (λ (q : Frequency). n) (all_groups d))
      (at_append_left (map h (all_roles d)) (at_append_left (map g d.preds) (at_map f i))))

  bounds-pred : {k : ℕ} {p : Predicate} → At p d.preds k → get_or bounds (length d.types + k) 0 ≡ g p
  bounds-pred {k} i =
      rw (← length-map d.types f)
      (at-get_or {A = ℕ} 0 (at_append_left (map (λ (q : Frequency). n) (all_groups d))
      (at_append_left (map h (all_roles d)) (at_append_right (map f d.types) (at_map g i)))))

  bounds-role : {k : ℕ} {r : Role} → At r (all_roles d) k → get_or bounds (first_role d + k) 0 ≡ h r
  unfolding first_role first_pred
  bounds-role {k} i =
      let before : length (map f d.types ++ map g d.preds) ≡ length d.types + length d.preds = simp (length-append, length-map) in
      rw (← before)
      (at-get_or {A = ℕ} 0 (at_append_left (map (λ (q : Frequency). n) (all_groups d))
      (at_append_right (map f d.types ++ map g d.preds) (at_map h i))))

pub lower-type : (d : Diagram) {a : ℕ} {t : ObjectType} → At t d.types a → get_or (lower d) a 0 ≡ t.min
unfolding lower
lower-type d h = bounds-type (λ t. t.min) (λ p. p.min) (λ r. r.rmin) 1 d h

pub upper-type : (d : Diagram) {a : ℕ} {t : ObjectType} → At t d.types a → get_or (upper d) a 0 ≡ upper_of_type t
unfolding upper
upper-type d h = bounds-type upper_of_type (λ p. p.max) upper_of_role 4096 d h

pub lower-role : (d : Diagram) {k : ℕ} {r : Role} → At r (all_roles d) k → get_or (lower d) (first_role d + k) 0 ≡ r.rmin
unfolding lower
lower-role d h = bounds-role (λ t. t.min) (λ p. p.min) (λ r. r.rmin) 1 d h

pub upper-role : (d : Diagram) {k : ℕ} {r : Role} → At r (all_roles d) k → get_or (upper d) (first_role d + k) 0 ≡ upper_of_role r
unfolding upper
upper-role d h = bounds-role upper_of_type (λ p. p.max) upper_of_role 4096 d h

-- a type's limits are among the diagram's
pub type-limit_in : (d : Diagram) {a : ℕ} {t : ObjectType} {l : Limit} → At t d.types a → l ∈ limits_of_type d a t → l ∈ limits d
unfolding limits
type-limit_in d {a} h m =
    Memᴰ.append_right (flat_map limits_of_pred (placed d)) (in_flatten (at_in (at-map_from (limits_of_type d) 0 h refl)) (rw (zero-add a) m))

pub group-set : (x : Placed) (k : ℕ) → group_set x (1 + k) ≡ x.groups + k
unfolding group_set
group-set x k = omega arith

in_only_if : (b : Bool) (l : Limit) → b ≡ true → l ∈ only_if b l
unfolding only_if
in_only_if b l e = rw e (here refl)

module _ {d : Diagram} {c : List ℕ} (s : Solved d c) where
  -- ---- bounds

  pub type-form : {a : ℕ} {t : ObjectType} → At t d.types a → TypeForm d.types (1 + a) t
  type-form h = each-from-at (TypeForm d.types) 1 s.form.types h

  pub count : length c ≡ length d.types + length d.preds + length (all_roles d) + length (all_groups d)
  unfolding lower
  count = sym s.above.sized ∙ simp (length-append, length-map)

  positive : (i : ℕ) → i < length c → 0 < size c i
  positive i h = le_trans (lower-positive d s.form _ (get_or_in (lower d) i 0 (rw s.above.sized h))) (s.above.entry i)

  pub type-least : {a : ℕ} {t : ObjectType} → At t d.types a → t.min ≤ size c a
  type-least {a} h = rw (lower-type d h) at (s.above.entry a)

  pub type-most : {a : ℕ} {t : ObjectType} → At t d.types a → size c a ≤ upper_of_type t
  type-most {a} h = rw (upper-type d h) at (s.below.entry a)

  -- ---- limits of a type

  type-limit : {a : ℕ} {t : ObjectType} (l : Limit) → At t d.types a → l ∈ limits_of_type d a t → Holds c l
  type-limit l h m = s.satisfied l (type-limit_in d h m)

  pub type-super : {a : ℕ} {t : ObjectType} → At t d.types a → ¬ (t.super ≡ 0) → size c a ≤ size c (index t.super)
  unfolding limits_of_type is_root at_most value_of product_over
  type-super {a} {t} h n =
      rw mul-one at (type-limit (at_most a (index t.super)) h (Memᴰ.append_left _ (in_only_if _ _ (rw (ne_eqb t.super 0 n)))))

  pub type-sum : {a : ℕ} {t : ObjectType} → At t d.types a → MustPlay d (suc a) t → size c a ≤ sum_over (size c) (roles_of_type d (suc a))
  unfolding limits_of_type value_of
  type-sum {a} {t} h n =
      type-limit _ h (Memᴰ.append_right (only_if (not (is_root t)) (at_most a (index t.super))) (in_only_if _ _ ((must_play_decides d (suc a) t).1 n)))

  -- ---- bounds and limits of a predicate

  module _ {x : Placed} (m : x ∈ placed d) where
    own-number : (k : ℕ) × At x.predicate d.preds k × (x.own ≡ length d.types + k)
    unfolding placed first_pred
    own-number = placed_at _ _ _ d.preds m

    pub pred-form : PredForm (length d.types) x.predicate
    pred-form = s.form.preds x.predicate (at_in own-number.1)

    pub own-least : x.predicate.min ≤ size c x.own
    unfolding lower
    own-least =
        let (k, h, e) = own-number in
        rw e (rw (bounds-pred (λ t. t.min) (λ p. p.min) (λ r. r.rmin) 1 d h) at (s.above.entry (length d.types + k)))

    pub own-most : size c x.own ≤ x.predicate.max
    unfolding upper
    own-most =
        let (k, h, e) = own-number in
        rw e (rw (bounds-pred upper_of_type (λ p. p.max) upper_of_role 4096 d h) at (s.below.entry (length d.types + k)))

    pub own-positive : 0 < size c x.own
    own-positive = omega (arith, pred-form.some, own-least)

    role-number : {j : ℕ} {r : Role} → At r x.predicate.roles j → (k : ℕ) × At r (all_roles d) k × (x.roles + j ≡ first_role d + k)
    unfolding placed all_roles
    role-number h = placed-role _ _ _ d.preds m h

    pub role-least : {j : ℕ} {r : Role} → At r x.predicate.roles j → r.rmin ≤ size c (x.roles + j)
    role-least h = let (k, l, e) = role-number h in rw e (rw (lower-role d l) at (s.above.entry (first_role d + k)))

    pub role-most : {j : ℕ} {r : Role} → At r x.predicate.roles j → size c (x.roles + j) ≤ r.rmax
    unfolding upper_of_role
    role-most {r = r} h =
        let (k, l, e) = role-number h in
        rw e (le_trans (rw (upper-role d l) at (s.below.entry (first_role d + k))) (min-le_right 4096 r.rmax))

    pub role-positive : {j : ℕ} {r : Role} → At r x.predicate.roles j → 0 < size c (x.roles + j)
    role-positive {r = r} h = omega (arith, (pred-form.roles r (at_in h)).some, role-least h)

    pub group-positive : {k : ℕ} {f : Frequency} → At f x.predicate.groups k → 0 < size c (group_set x (1 + k))
    unfolding placed first_group first_role first_pred all_roles all_groups
    group-positive {k} h =
        let e = group-sets (first_pred d) (first_role d) (first_group d) d.preds in
        let l : x.groups + k ∈ flat_map group_sets (placed d) = in_flat_map group_sets m (in_up_from _ _ (omega arith) (omega (arith, at-below h))) in
        rw (group-set x k) (positive (x.groups + k) (omega (arith, count, of-up_from _ _ (rw e at l))))

    pred-limit : (l : Limit) → l ∈ limits_of_pred x → Holds c l
    unfolding limits
    pred-limit l k = s.satisfied l (Memᴰ.append_left _ (in_flat_map limits_of_pred m k))

    role_limits : List Limit
    role_limits = flatten (map_from (limits_of_role x) x.roles x.predicate.roles)

    group_limits : List Limit
    group_limits = flatten (map_from (limits_of_group x) 1 x.predicate.groups)

    pub own-product : size c x.own ≤ product_over (size c) (map (λ (b : Part). b.own) (parts x))
    unfolding limits_of_pred limit_of_rows role_limits group_limits value_of
    own-product = pred-limit (limit_of_rows x) (Memᴰ.append_right (role_limits ++ group_limits) (here refl))

    module _ {j : ℕ} {r : Role} (h : At r x.predicate.roles j) where
      role-limit : (l : Limit) → l ∈ limits_of_role x (x.roles + j) r → Holds c l
      unfolding limits_of_pred role_limits group_limits
      role-limit l k =
          pred-limit l (Memᴰ.append_left (limit_of_rows x ∷ [])
          (Memᴰ.append_left group_limits (in_flatten (at_in (at-map_from (limits_of_role x) x.roles h refl)) k)))

      pub role-type : size c (x.roles + j) ≤ size c (index r.type)
      unfolding limits_of_role at_most value_of product_over
      role-type = rw mul-one at (role-limit (at_most (x.roles + j) (index r.type)) (here refl))

      pub role-own : size c (x.roles + j) ≤ size c x.own
      unfolding limits_of_role at_most value_of product_over
      role-own = rw mul-one at (role-limit (at_most (x.roles + j) x.own) (there (here refl)))

      pub role-group : ¬ (r.group ≡ 0) → size c (x.roles + j) ≤ size c (group_set x r.group)
      unfolding limits_of_role is_grouped at_most value_of product_over
      role-group n =
          rw mul-one at (role-limit (at_most (x.roles + j) (group_set x r.group))
          (there (there (Memᴰ.append_left _ (in_only_if _ _ (rw (ne_eqb r.group 0 n)))))))

      pub role_mandatory : r.mand ≡ 1 → size c (index r.type) ≤ size c (x.roles + j)
      unfolding limits_of_role is_mandatory at_most value_of product_over
      role_mandatory e =
          rw mul-one at (role-limit (at_most (index r.type) (x.roles + j))
          (there (there (Memᴰ.append_right (only_if (is_grouped r) (at_most (x.roles + j) (group_set x r.group)))
          (in_only_if _ _ (eq-eqb r.mand 1 e))))))

    module _ {k : ℕ} {f : Frequency} (h : At f x.predicate.groups k) where
      group-limit : (l : Limit) → l ∈ limits_of_group x (1 + k) f → Holds c l
      unfolding limits_of_pred role_limits group_limits
      group-limit l m' =
          pred-limit l (Memᴰ.append_left (limit_of_rows x ∷ [])
          (Memᴰ.append_right role_limits (in_flatten (at_in (at-map_from (limits_of_group x) 1 h refl)) m')))

      pub group-most : size c x.own ≤ f.fmax * size c (group_set x (1 + k))
      unfolding limits_of_group value_of
      group-most = group-limit _ (here refl)

      pub group-least : size c (group_set x (1 + k)) ≤ size c x.own / f.fmin
      unfolding limits_of_group value_of
      group-least = group-limit _ (there (here refl))

      pub group-product : size c (group_set x (1 + k)) ≤ product_over (size c) (group_roles x (1 + k))
      unfolding limits_of_group value_of
      group-product = group-limit _ (there (there (here refl)))
