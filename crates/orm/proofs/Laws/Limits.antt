-- Limits that hold only of some, and which limits of a diagram are on a type: its own, and one for each mandatory role that it plays.
use Rattle.std.specs.Prelude.{ℕ, suc, ◌+◌, ◌≤◌, ◌<◌, ◌≡◌, refl, Bool, true, false, not}
use native.Mathlib.Omega.{arith}
use Rattle.std.proofs.Math.Path.{subst}
use Rattle.std.proofs.Math.Logic.{⊎_elim}
use mathlib.Core.List.Memᴰ
use mathlib.Core.List.Memᴰ.{head as here}
use mathlib.Core.List.Memᴰ.{tail as there}
use mathlib.Core.List.{List, [], ◌∷◌, flat_map}
use Rattle.std.proofs.Math.ListN.{length}
use Rattle.counting.specs.Terms.{◌∈◌, Each}
use Rattle.counting.proofs.Laws.Index.{at_in, at-below, at-unique, of-flatten-map_from}
use Rattle.counting.specs.Index.{At}
use Rattle.counting.proofs.Laws.Members.{each_nil, each-cons, each_append, in_flat_map, of-flat_map}
use Rattle.fixpoint.specs.Limits.{Limit}
use Rattle.orm.specs.Diagram.{ObjectType, Role, Frequency, Predicate, Diagram, is_root, is_mandatory, is_grouped, must_play, index, all_roles}
use Rattle.orm.specs.Sets.{first_pred, first_role, first_group, Placed, placed_from, placed, group_set, at_most, only_if, limits_of_role, limits_of_group}
use Rattle.orm.specs.Sets.{limit_of_rows, limits_of_pred, limits_of_type, limits}
use Rattle.orm.specs.Meaning.{Plays}
use Rattle.orm.specs.WellFormed.{PredForm, WellFormed}

pub each-only_if : (P : Limit → Type 0) (b : Bool) {l : Limit} → (b ≡ true → P l) → Each P (only_if b l)
unfolding only_if
each-only_if P true h = each-cons P (h refl) (each_nil P)
each-only_if P false h = each_nil P

-- The sets of a predicate, its roles and its groups are numbered on from these
record From (r p q : ℕ) (ps : List Predicate) (x : Placed) : Type 0 where
  own : r ≤ x.own
  roles : p ≤ x.roles
  groups : q ≤ x.groups
  among : x.predicate ∈ ps

placed-from : (r p q : ℕ) (ps : List Predicate) {x : Placed} → x ∈ placed_from r p q ps → From r p q ps x
unfolding placed_from
placed-from r p q [] m = absurd (Memᴰ.not-nil m)
placed-from r p q (y ∷ ps) (here e) =
    rw e (record { own = omega arith; roles = omega arith; groups = omega arith; among = here refl })
placed-from r p q (y ∷ ps) (there m) =
    let f = placed-from (suc r) _ _ ps m in
    record { own = omega arith; roles = omega arith; groups = omega arith; among = there f.among }

-- ---- none of a predicate's limits is on a type that plays none of its roles

module _ (a : ℕ) where
  abbrev Elsewhere : Limit → Type 0
  Elsewhere l = ¬ (l.target ≡ a)

  module _ {types : ℕ} {x : Placed} (own : a < x.own) (roles : a < x.roles) (groups : a < x.groups) (form : PredForm types x.predicate)
      (none : ¬ Plays (suc a) x.predicate.roles) where
    role_elsewhere : (k : ℕ) (r : Role) → At r x.predicate.roles k → Each Elsewhere (limits_of_role x (x.roles + k) r)
    unfolding limits_of_role at_most
    role_elsewhere k r m =
        let other : ¬ (index r.type ≡ a) = λ e. none (r, at_in m, omega (arith, (form.roles r (at_in m)).player.0)) in
        each-cons _ (λ e. omega arith)
        (each-cons _ (λ e. omega arith)
        (each_append _ _ _ (each-only_if _ (is_grouped r) (λ _ e. omega arith)) (each-only_if _ (is_mandatory r) (λ _. other))))

    group_elsewhere : (k : ℕ) (f : Frequency) → Each Elsewhere (limits_of_group x (1 + k) f)
    unfolding limits_of_group group_set
    group_elsewhere k f =
        each-cons _ (λ e. omega arith) (each-cons _ (λ e. omega arith) (each-cons _ (λ e. omega arith) (each_nil _)))

    pred_elsewhere : Each Elsewhere (limits_of_pred x)
    unfolding limits_of_pred limit_of_rows
    pred_elsewhere =
        each_append _ _ _
        (each_append _ _ _
        (λ l m. let (k, r, h, i) = of-flatten-map_from (limits_of_role x) x.roles x.predicate.roles m in role_elsewhere k r h l i)
        (λ l m. let (k, f, h, i) = of-flatten-map_from (limits_of_group x) 1 x.predicate.groups m in group_elsewhere k f l i))
        (each-cons _ (λ e. omega arith) (each_nil _))

-- ---- of a type that plays no role only its own limits are on it

module _ {d : Diagram} (w : WellFormed d) {a : ℕ} {t : ObjectType} (h : At t d.types a) (none : ¬ Plays (suc a) (all_roles d)) where
  preds_elsewhere : Each (Elsewhere a) (flat_map limits_of_pred (placed d))
  unfolding placed first_pred first_role first_group all_roles
  preds_elsewhere l m =
      let (x, i, k) = of-flat_map limits_of_pred (placed d) m in
      let f = placed-from (first_pred d) (first_role d) (first_group d) d.preds i in
      let inside : a < length d.types = at-below h in
      pred_elsewhere a (omega (arith, f.own)) (omega (arith, f.roles)) (omega (arith, f.groups)) (w.preds x.predicate f.among)
      (λ (r, j, e). none (r, in_flat_map (λ (p : Predicate). p.roles) f.among j, e)) l k

  own-target : (b : ℕ) (s : ObjectType) → Each (λ l. l.target ≡ b) (limits_of_type d b s)
  unfolding limits_of_type at_most
  own-target b s = each_append _ _ _ (each-only_if _ (not (is_root s)) (λ _. refl)) (each-only_if _ (must_play d (suc b) s) (λ _. refl))

  pub only-own : (l : Limit) → l ∈ limits d → l.target ≡ a → l ∈ limits_of_type d a t
  unfolding limits
  only-own l m e =
      ⊎_elim (λ i. absurd (preds_elsewhere l i e)) (λ i. go (of-flatten-map_from (limits_of_type d) 0 d.types i))
      (Memᴰ.append_cases (flat_map limits_of_pred (placed d)) m)
    where
      go : (k : ℕ) × (s : ObjectType) × At s d.types k × (l ∈ limits_of_type d (0 + k) s) → l ∈ limits_of_type d a t
      go (k, s, at, i) =
          let same : k ≡ a = omega (arith, own-target (0 + k) s l i) in
          let here-too : At s d.types a = subst (λ (j : ℕ). At s d.types j) same at in
          let z : 0 + k ≡ a = omega arith in
          subst (λ (j : ℕ). l ∈ limits_of_type d j t) z (subst (λ (y : ObjectType). l ∈ limits_of_type d (0 + k) y) (at-unique here-too h) i)
