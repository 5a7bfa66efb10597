-- The laws of a walk: `n` predicates from a position on are the one that stands there and those from the next position on, as lines are
-- (counting: Lines).
-- A loop counts `n` down, so it ends where none is left.
use Rattle.std.specs.Prelude.{ℕ, zero, suc, ◌+◌, ◌*◌, ◌-◌, ◌≤◌, ◌<◌, ◌≡◌, refl, get_or, drop}
use Rattle.std.proofs.Common.{arith, sym, ap₂, ◌∙◌, drop-drop, get_or-drop, Fits}
use Rattle.std.proofs.Math.Path.{ap}
use mathlib.Core.List.{List, [], ◌∷◌, ◌++◌, flat_map}
use Rattle.std.proofs.Math.ListN.{length, length-append}
use Rattle.std.specs.Int.{w32}
pub use Rattle.counting.proofs.Laws.Lines.{each_more, each_none, each-length}
use Rattle.orm.specs.Diagram.{Predicate, all_roles}
use Rattle.orm.specs.Form.{group_of}
use Rattle.table.specs.Positions.{role_width, wide_role, roles_in, groups_in, roles_start, groups_start, roles_of, groups_of, pred_of, pred_length, preds_in, preds_length, type_count, pred_count, first_pred_at, diagram_of, Walkable}
use Rattle.table.specs.Cursors.{Ahead, roles_ahead, groups_ahead}

-- ---- one number

pub number_small : (t : List ℕ) (k : ℕ) → Walkable t → get_or t k 0 ≤ 999999
number_small t k w = w.small k

pub field-small : (t : List ℕ) (at i : ℕ) {r : ℕ} → Walkable t → r ≡ get_or (drop at t) i 0 → r ≤ 999999
field-small t at i w e = rw (e, get_or-drop at t i 0) (w.small (at + i))

-- the number of predicates stands behind the types; `n` is their number, and `i` the same as an index
pub pred-count-is : (t : List ℕ) {n i r : ℕ} → n ≡ type_count t → i ≡ n → r ≡ get_or (drop (2 + 6 * i) t) 0 0 → r ≡ pred_count t
pred-count-is t en ei er = er ∙ ap (λ (m : ℕ). get_or (drop (2 + 6 * m) t) 0 0) (ei ∙ en)

pub pred-count-few : (t : List ℕ) {r : ℕ} → Walkable t → r ≡ pred_count t → r ≤ 32
pred-count-few t w e = rw e w.few_preds

-- ---- role lines

pub role-more : (t : List ℕ) (at n : ℕ) → 0 < n → roles_in n (drop at t) ≡ wide_role (drop at t) ∷ roles_in (n - 1) (drop (at + role_width) t)
role-more = each_more wide_role role_width

pub role-none : (n : ℕ) (s : List ℕ) → n ≤ 0 → roles_in n s ≡ []
role-none = each_none wide_role role_width

-- ---- the roles and groups of the predicate that starts at `at`: how many, and where they start

pub role-count : (s : List ℕ) → length (roles_of s) ≡ get_or s 2 0
role-count s = each-length wide_role role_width (get_or s 2 0) (drop roles_start s)

pub group-count : (s : List ℕ) → length (groups_of s) ≡ get_or s 3 0
group-count s = each-length group_of 2 (get_or s 3 0) (drop (groups_start s) s)

module _ (t : List ℕ) (at : ℕ) {n e : ℕ} where
  pub roles-here : n ≡ get_or (drop at t) 2 0 → e ≡ at + roles_start → roles_in n (drop e t) ≡ roles_of (drop at t)
  roles-here en ee = rw (en, ee, ← drop-drop roles_start at t)

  pub groups-here : n ≡ get_or (drop at t) 3 0 → e ≡ at + groups_start (drop at t) → groups_in n (drop e t) ≡ groups_of (drop at t)
  groups-here en ee = rw (en, ee, ← drop-drop (groups_start (drop at t)) at t)

-- ---- predicates; `e` is where the next one starts

pub preds_more : (t : List ℕ) (at n : ℕ) {e : ℕ} → 0 < n → e ≡ at + pred_length (drop at t)
    → preds_in n (drop at t) ≡ pred_of (drop at t) ∷ preds_in (n - 1) (drop e t)
unfolding preds_in
preds_more t at zero h q = absurd (omega arith)
preds_more t at (suc n) h q =
    let e : n ≡ suc n - 1 = omega arith in
    ap₂ {C = List Predicate} (λ m s. pred_of (drop at t) ∷ preds_in m s) e (drop-drop (pred_length (drop at t)) at t
    ∙ ap (λ (m : ℕ). drop m t) (sym q))

pub preds-none : (n : ℕ) (s : List ℕ) → n ≤ 0 → preds_in n s ≡ []
unfolding preds_in
preds-none zero s h = refl
preds-none (suc n) s h = absurd (omega arith)

pub preds-length : (n : ℕ) (s : List ℕ) → length (preds_in n s) ≡ n
unfolding preds_in
preds-length zero s = refl
preds-length (suc n) s = ap suc (preds-length n (drop (pred_length s) s))

-- ---- the numbers of the predicates left stand in the table

pub ahead-start : (t : List ℕ) {at n : ℕ} → Walkable t → at ≡ first_pred_at t → n ≡ pred_count t → Ahead t at n
ahead-start t w ea en = record { inside = rw (ea, en) w.whole }

ahead-is : (t : List ℕ) (at n : ℕ) → 0 < n
    → preds_length n (drop at t) ≡ pred_length (drop at t) + preds_length (n - 1) (drop (at + pred_length (drop at t)) t)
unfolding preds_length
ahead-is t at zero h = absurd (omega arith)
ahead-is t at (suc n) h =
    let e : n ≡ suc n - 1 = omega arith in
    ap₂ (λ (m : ℕ) (s : List ℕ). pred_length (drop at t) + preds_length m s) e (drop-drop (pred_length (drop at t)) at t)

module _ (t : List ℕ) (at n : ℕ) where
  pub ahead-here : Ahead t at n → 0 < n → at + pred_length (drop at t) ≤ length t
  ahead-here a h = omega (arith, a.inside, ahead-is t at n h)

  -- single numbers of its first line
  pub ahead-first : Ahead t at n → 0 < n → at + 0 < length t
  ahead-first a h = omega (arith, ahead-here a h)

  pub ahead_second : Ahead t at n → 0 < n → at + 1 < length t
  ahead_second a h = omega (arith, ahead-here a h)

  pub ahead-third : Ahead t at n → 0 < n → at + 2 < length t
  ahead-third a h = omega (arith, ahead-here a h)

  pub ahead_more : {e : ℕ} → Ahead t at n → 0 < n → e ≡ at + pred_length (drop at t) → Ahead t e (n - 1)
  ahead_more a h q = record { inside = rw q (omega (arith, a.inside, ahead-is t at n h)) }

-- the same, of `n` of which `i` are passed
pub ahead_on : (t : List ℕ) (at n i : ℕ) {e : ℕ} → Ahead t at (n - i) → i < n → e ≡ at + pred_length (drop at t) → Ahead t e (n - (i + 1))
ahead_on t at n i a h q = let one : n - i - 1 ≡ n - (i + 1) = omega arith in rw one at (ahead_more t at (n - i) a (omega arith) q)

-- ---- the number of roles, and of groups: those of the predicate here and those behind it come to those ahead

-- the items of the predicates; `f` is `roles` or `groups`, and their number stands at `i`
module _ {A : Type 0} (f : Predicate → List A) (i : ℕ) (counted : (s : List ℕ) → length (f (pred_of s)) ≡ get_or s i 0) where
  items_more : (t : List ℕ) (at n : ℕ) {e : ℕ} → 0 < n → e ≡ at + pred_length (drop at t)
      → get_or (drop at t) i 0 + length (flat_map f (preds_in (n - 1) (drop e t))) ≡ length (flat_map f (preds_in n (drop at t)))
  unfolding flat_map
  items_more t at n {e} h q =
      let rest : List A = flat_map f (preds_in (n - 1) (drop e t)) in
      let split : length (flat_map f (preds_in n (drop at t))) ≡ length (f (pred_of (drop at t)) ++ rest) =
      ap (λ (ps : List Predicate). length (flat_map f ps)) (preds_more t at n h q) in
      omega (arith, split, length-append (f (pred_of (drop at t))) rest, counted (drop at t))

module _ (t : List ℕ) (at n : ℕ) {e : ℕ} where
  pub roles-ahead : 0 < n → e ≡ at + pred_length (drop at t)
      → get_or (drop at t) 2 0 + roles_ahead (n - 1) (drop e t) ≡ roles_ahead n (drop at t)
  roles-ahead = items_more (λ (p : Predicate). p.roles) 2 role-count t at n

  pub groups-ahead : 0 < n → e ≡ at + pred_length (drop at t)
      → get_or (drop at t) 3 0 + groups_ahead (n - 1) (drop e t) ≡ groups_ahead n (drop at t)
  groups-ahead = items_more (λ (p : Predicate). p.groups) 3 group-count t at n

-- The `m` roles counted, and those ahead, are all roles
abbrev pub RolesLeft : List ℕ → ℕ → ℕ → ℕ → Type 0
RolesLeft t at n m = m + roles_ahead n (drop at t) ≡ length (all_roles (diagram_of t))

pub roles-start : (t : List ℕ) {at n : ℕ} → at ≡ first_pred_at t → n ≡ pred_count t → RolesLeft t at n 0
unfolding all_roles diagram_of
roles-start t ea en = rw (ea, en) (omega arith)

module _ (t : List ℕ) (at n m : ℕ) (left : RolesLeft t at n m) where
  pub roles-all : n ≤ 0 → m ≡ length (all_roles (diagram_of t))
  unfolding flat_map
  roles-all h =
      let none : roles_ahead n (drop at t) ≡ 0 = rw (preds-none n (drop at t) h) in
      omega (arith, none)

  pub roles_more : {e r : ℕ} → 0 < n → e ≡ at + pred_length (drop at t) → r ≡ get_or (drop at t) 2 0 → RolesLeft t e (n - 1) (m + r)
  roles_more h q p = omega (arith, roles-ahead t at n h q)

  pub roles-fit : {r : ℕ} → Walkable t → 0 < n → r ≡ get_or (drop at t) 2 0 → Fits w32 (m + r)
  roles-fit w h p = record { fits = omega (arith, roles-ahead t at n h refl, w.few_roles) }

  pub roles-few : Walkable t → n ≤ 0 → m ≤ 96
  roles-few w h = omega (arith, roles-all h, w.few_roles)

-- of `n` predicates `i` are passed
pub roles_on : (t : List ℕ) (at n i m : ℕ) {e r : ℕ} → RolesLeft t at (n - i) m → i < n → e ≡ at + pred_length (drop at t)
    → r ≡ get_or (drop at t) 2 0 → RolesLeft t e (n - (i + 1)) (m + r)
roles_on t at n i m {e} {r} left h q p =
    let one : n - i - 1 ≡ n - (i + 1) = omega arith in
    rw one at (roles_more t at (n - i) m left (omega arith) q p)
