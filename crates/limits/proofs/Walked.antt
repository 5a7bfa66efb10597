-- The limits of all roles, groups, predicates and types, written in the order of `limits`: what a turn of each loop writes and what it leaves.
use Rattle.std.specs.Prelude.{ℕ, suc, ◌+◌, ◌*◌, ◌-◌, ◌≤◌, ◌<◌, ◌≡◌, refl, fold, length, drop, ltb}
use Rattle.std.proofs.Common.{arith, sym, ap, ap₂, subst, ◌∙◌, get_or}
use mathlib.Core.List.{List, [], ◌∷◌, ◌++◌, flat_map, flatten}
use Rattle.std.proofs.lemmas.List.Sums.{fold-append}
use Rattle.orm.specs.Diagram.{Diagram, plays, all_roles}
use Rattle.orm.specs.Form.{type_of, group_of}
use Rattle.counting.specs.Lists.{map_from, each}
use Rattle.fixpoint.specs.Limits.{Limit}
use Rattle.orm.specs.Sets.{Placed, first_role, placed, limits_of_role, limits_of_group, limit_of_rows, limits_of_pred, limits_of_type, limits}
use Rattle.table.specs.Positions.{role_width, wide_role, roles_start, groups_start, type_count, pred_count, diagram_of}
use Rattle.table.specs.Laws.Walks.{each_more, each_none, roles-here, groups-here}
use Rattle.table.specs.Cursors.{placed_at, placed_left, first_cursor, next_cursor, Reach}
use Rattle.table.specs.Laws.Cursors.{placed-start, placed-more, placed-none, reach-more}
use Rattle.table.specs.declared.Cursor.{Cursor}
use Rattle.selection.specs.Selected.{positions, Types}
use Rattle.selection.specs.Laws.Players.{counted-plays}
use Rattle.limits.specs.Single.{Played}
use Rattle.limits.specs.Encoded.{both_of, with_limit, Encoded, Encoding}
use Rattle.limits.proofs.Limited.{encoded_then}
use Rattle.limits.specs.declared.writer.Writer.{Writer}

-- ---- what is left comes to the whole

pub encoding_start : {o : Writer} {whole rest : List Limit} → rest ≡ whole → Encoding o whole o rest
encoding_start {o} e = record { same_limits = refl; same_operands = refl; is = ap (λ ls. fold with_limit (both_of o) ls) e }

pub encoding_more : {o m n : Writer} {whole rest xs ys : List Limit} → rest ≡ xs ++ ys → Encoding o whole m rest → Encoded m xs n → Encoding o whole n ys
encoding_more {m = m} {xs = xs} {ys = ys} e w v = record {
  same_limits = v.same_limits ∙ w.same_limits;
  same_operands = v.same_operands ∙ w.same_operands;
  is = ap (λ b. fold with_limit b ys) v.is ∙ sym (fold-append with_limit (both_of m) xs ys) ∙ ap (λ ls. fold with_limit (both_of m) ls) (sym e) ∙ w.is;
}

pub encoding_all : {o n : Writer} {whole rest : List Limit} → rest ≡ [] → Encoding o whole n rest → Encoded o whole n
encoding_all {n = n} e w = record {
  same_limits = w.same_limits;
  same_operands = w.same_operands;
  is = ap (λ ls. fold with_limit (both_of n) ls) (sym e) ∙ w.is;
}

-- ---- the limits of each line, numbered from `i`

abbrev pub items : {A : Type 0} → (ℕ → A → List Limit) → ℕ → List A → List Limit
items g i xs = flatten (map_from g i xs)

-- behind the first j lines of n
abbrev pub left : {A : Type 0} → (List ℕ → A) → ℕ → (ℕ → A → List Limit) → List ℕ → ℕ → ℕ → ℕ → ℕ → List Limit
left make k g t q n i j = items g (i + j) (each make k (n - j) (drop (q + k * j) t))

module _ {A : Type 0} (make : List ℕ → A) (k : ℕ) (g : ℕ → A → List Limit) (t : List ℕ) (q n i : ℕ) where
  pub left_more : (j : ℕ) → k * (j + 1) ≡ k * j + k → j < n
      → left make k g t q n i j ≡ g (i + j) (make (drop (q + k * j) t)) ++ left make k g t q n i (j + 1)
  unfolding map_from flatten
  left_more j step h =
      let at : suc (i + j) ≡ i + (j + 1) = omega arith in
      let count : n - j - 1 ≡ n - (j + 1) = omega arith in
      let next : q + k * j + k ≡ q + k * (j + 1) = omega arith in
      ap (items g (i + j)) (each_more make k t (q + k * j) (n - j) (omega arith))
      ∙ ap (λ m. g (i + j) (make (drop (q + k * j) t)) ++ items g m (each make k (n - j - 1) (drop (q + k * j + k) t))) at
      ∙ ap₂ (λ m p. g (i + j) (make (drop (q + k * j) t)) ++ items g (i + (j + 1)) (each make k m (drop p t))) count next

  pub left_none : (j : ℕ) → n ≤ j → left make k g t q n i j ≡ []
  unfolding map_from flatten
  left_none j h = ap (items g (i + j)) (each_none make k (n - j) (drop (q + k * j) t) (omega arith))

  pub left_all : k * 0 ≡ 0 → left make k g t q n i 0 ≡ items g i (each make k n (drop q t))
  left_all z =
      let at : i + 0 ≡ i = omega arith in
      let count : n - 0 ≡ n = omega arith in
      let first : q + k * 0 ≡ q = omega arith in
      ap (λ m. items g m (each make k (n - 0) (drop (q + k * 0) t))) at ∙ ap₂ (λ m p. items g i (each make k m (drop p t))) count first

-- ---- roles, groups and types

module _ (t : List ℕ) (x : Cursor) where
  pub roles_first : {q : ℕ} → q ≡ x.at + roles_start
      → left wide_role role_width (limits_of_role (placed_at t x)) t q (get_or (drop x.at t) 2 0) x.roles 0
      ≡ items (limits_of_role (placed_at t x)) x.roles (placed_at t x).predicate.roles
  unfolding placed_at
  roles_first {q} e =
      left_all wide_role role_width (limits_of_role (placed_at t x)) t q (get_or (drop x.at t) 2 0) x.roles refl
      ∙ ap (items (limits_of_role (placed_at t x)) x.roles) (roles-here t x.at refl e)

  pub groups_first : {q : ℕ} → q ≡ x.at + groups_start (drop x.at t)
      → left group_of 2 (limits_of_group (placed_at t x)) t q (get_or (drop x.at t) 3 0) 1 0
      ≡ items (limits_of_group (placed_at t x)) 1 (placed_at t x).predicate.groups
  unfolding placed_at
  groups_first {q} e =
      left_all group_of 2 (limits_of_group (placed_at t x)) t q (get_or (drop x.at t) 3 0) 1 refl
      ∙ ap (items (limits_of_group (placed_at t x)) 1) (groups-here t x.at refl e)

module _ (t : List ℕ) where
  pub types_first : left type_of 6 (limits_of_type (diagram_of t)) t 2 (type_count t) 0 0 ≡ items (limits_of_type (diagram_of t)) 0 (diagram_of t).types
  unfolding diagram_of
  types_first = left_all type_of 6 (limits_of_type (diagram_of t)) t 2 (type_count t) 0 refl

  pub types_more : (j : ℕ) → j < type_count t
      → left type_of 6 (limits_of_type (diagram_of t)) t 2 (type_count t) 0 j
      ≡ limits_of_type (diagram_of t) j (type_of (drop (2 + 6 * j) t)) ++ left type_of 6 (limits_of_type (diagram_of t)) t 2 (type_count t) 0 (j + 1)
  types_more j h =
      let at : 0 + j ≡ j = omega arith in
      left_more type_of 6 (limits_of_type (diagram_of t)) t 2 (type_count t) 0 j (omega arith) h
      ∙ ap (λ m. limits_of_type (diagram_of t) m (type_of (drop (2 + 6 * j) t))
      ++ left type_of 6 (limits_of_type (diagram_of t)) t 2 (type_count t) 0 (j + 1)) at

-- ---- predicates

module _ (t : List ℕ) where
  pub pred_is : (x : Cursor) {o o₁ o₂ o₃ : Writer} → Encoded o (items (limits_of_role (placed_at t x)) x.roles (placed_at t x).predicate.roles) o₁
      → Encoded o₁ (items (limits_of_group (placed_at t x)) 1 (placed_at t x).predicate.groups) o₂
      → Encoded o₂ (limit_of_rows (placed_at t x) ∷ []) o₃ → Encoded o (limits_of_pred (placed_at t x)) o₃
  unfolding limits_of_pred placed_at
  pred_is x w₁ w₂ w₃ = encoded_then (encoded_then w₁ w₂) w₃

  -- those behind the first j of the predicates
  abbrev pub preds_left : Cursor → ℕ → List Limit
  preds_left x j = flat_map limits_of_pred (placed_left (pred_count t - j) t x)

  pub preds_all : {x : Cursor} → x ≡ first_cursor t → preds_left x 0 ≡ flat_map limits_of_pred (placed (diagram_of t))
  preds_all e =
      let count : pred_count t - 0 ≡ pred_count t = omega arith in
      ap (λ (l : List Placed). flat_map limits_of_pred l) (placed-start t e count)

  module _ (x : Cursor) (j : ℕ) where
    pub preds_more : {y : Cursor} → j < pred_count t → y ≡ next_cursor t x → preds_left x j ≡ limits_of_pred (placed_at t x) ++ preds_left y (j + 1)
    unfolding flat_map
    preds_more {y} h e =
        let count : pred_count t - j - 1 ≡ pred_count t - (j + 1) = omega arith in
        ap (λ (l : List Placed). flat_map limits_of_pred l) (placed-more t x (pred_count t - j) (omega arith) e)
        ∙ ap (λ n. limits_of_pred (placed_at t x) ++ flat_map limits_of_pred (placed_left n t y)) count

    pub reach_next : {y : Cursor} → Reach t x (pred_count t - j) → j < pred_count t → y ≡ next_cursor t x → Reach t y (pred_count t - (j + 1))
    reach_next {y} r h e =
        let count : pred_count t - j - 1 ≡ pred_count t - (j + 1) = omega arith in
        subst (Reach t y) count (reach-more t x (pred_count t - j) r (omega arith) e)

    pub preds_none : pred_count t ≤ j → preds_left x j ≡ []
    unfolding flat_map
    preds_none h = ap (λ (l : List Placed). flat_map limits_of_pred l) (placed-none t x (pred_count t - j) (omega arith))

-- ---- types

pub first-played : (t types : List ℕ) {first : ℕ} → first ≡ first_role (diagram_of t) → first ≤ 64 → Types t types → Played t types first
first-played t types e h w = record { known = w; starts = e; small = omega (arith, w.few) }

pub own-plays : (t types : List ℕ) (first number : ℕ) {own : ℕ} → Played t types first → own ≡ length (positions number 0 types)
    → ltb 0 own ≡ plays number (all_roles (diagram_of t))
own-plays t types first number w e = counted-plays t types number w.known e

pub limits_is : (d : Diagram) {o o₁ o₂ : Writer} → Encoded o (flat_map limits_of_pred (placed d)) o₁
    → Encoded o₁ (items (limits_of_type d) 0 d.types) o₂ → Encoded o (limits d) o₂
unfolding limits
limits_is d w v = encoded_then w v
