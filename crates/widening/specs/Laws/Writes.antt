-- What a turn of a loop writes, and that what it reads stands in the table.
use Rattle.std.specs.Prelude.{ℕ, zero, suc, ◌+◌, ◌*◌, ◌-◌, ◌≤◌, ◌<◌, ◌≡◌, refl, List, [], ◌∷◌, ◌++◌, length, get_or, take, drop}
use Rattle.std.proofs.Common.{arith, add-one, sym, ap, ap₂, ◌∙◌, append_assoc, append-nil, drop-drop, length-drop, take_all}
use mathlib.Core.List.{flat_map}
use Rattle.counting.specs.Lists.{each}
use Rattle.orm.specs.Form.{role_fields}
use Rattle.widening.specs.Widened.{role_widened, roles_widened, pred_fields, pred_widened, preds_fields, preds_widened, plain_fields, plain_widened}

-- a slice from a position to its end
whole : (s : List ℕ) (at : ℕ) → take (length s - at) (drop at s) ≡ drop at s
whole s at = take_all (length s - at) (drop at s) (omega (arith, length-drop at s))

-- ---- role lines

pub role_is : (s : List ℕ) → length s ≡ role_fields → (s ++ 1 ∷ []) ++ 4096 ∷ [] ≡ role_widened s
role_is [] h = absurd (omega arith)
role_is (a ∷ []) h = absurd (omega arith)
role_is (a ∷ b ∷ []) h = absurd (omega arith)
role_is (a ∷ b ∷ c ∷ []) h = refl
role_is (a ∷ b ∷ c ∷ d ∷ s) h = absurd (omega arith)

role_of_three : (s : List ℕ) → role_widened (take 3 s) ≡ role_widened s
role_of_three [] = refl
role_of_three (a ∷ []) = refl
role_of_three (a ∷ b ∷ []) = refl
role_of_three (a ∷ b ∷ c ∷ s) = refl

pub role_cut : (s : List ℕ) (n : ℕ) → n ≡ role_fields → role_widened (take n s) ≡ role_widened s
role_cut s n e = rw e (role_of_three s)

pub roles_none : (s : List ℕ) → roles_widened 0 s ≡ []
unfolding roles_widened each flat_map
roles_none s = refl

roles-next : (n : ℕ) (s : List ℕ) → roles_widened (suc n) s ≡ role_widened s ++ roles_widened n (drop role_fields s)
unfolding roles_widened each flat_map
roles-next n s = refl

roles-suc : (n : ℕ) (s : List ℕ) → roles_widened (suc n) s ≡ roles_widened n s ++ role_widened (drop (role_fields * n) s)
roles-suc zero s = roles-next zero s ∙ (rw (roles_none (drop role_fields s), roles_none s) (append-nil (role_widened s)))
roles-suc (suc n) s =
    roles-next (suc n) s
    ∙ ap (λ xs. role_widened s ++ xs) (roles-suc n (drop role_fields s) ∙ ap (λ t. roles_widened n (drop role_fields s) ++ role_widened t) (drop-drop (role_fields * n) role_fields s))
    ∙ sym (append_assoc (role_widened s) (roles_widened n (drop role_fields s)) _)
    ∙ ap₂ (λ xs t. xs ++ role_widened t) (sym (roles-next n s)) (ap (λ k. drop k s) (omega arith))

pub roles_more : (n : ℕ) (s : List ℕ) → roles_widened (n + 1) s ≡ roles_widened n s ++ role_widened (drop (role_fields * n) s)
roles_more n s = rw add-one (roles-suc n s)

-- ---- predicates

pub preds_none : (s : List ℕ) → preds_widened 0 s ≡ []
unfolding preds_widened
preds_none s = refl

fields_next : (n : ℕ) (s : List ℕ) → preds_fields (suc n) s ≡ pred_fields s + preds_fields n (drop (pred_fields s) s)
unfolding preds_fields
fields_next n s = refl

pub fields_none : (s : List ℕ) → preds_fields 0 s ≡ 0
unfolding preds_fields
fields_none s = refl

preds_next : (n : ℕ) (s : List ℕ) → preds_widened (suc n) s ≡ pred_widened s ++ preds_widened n (drop (pred_fields s) s)
unfolding preds_widened
preds_next n s = refl

-- behind `n` predicates stands the next one
behind-them : (n : ℕ) (s : List ℕ) → drop (preds_fields n (drop (pred_fields s) s)) (drop (pred_fields s) s) ≡ drop (preds_fields (suc n) s) s
behind-them n s =
    let e : preds_fields n (drop (pred_fields s) s) + pred_fields s ≡ preds_fields (suc n) s = omega (arith, fields_next n s) in
    drop-drop (preds_fields n (drop (pred_fields s) s)) (pred_fields s) s ∙ ap (λ k. drop k s) (omega (arith, fields_next n s))

fields-suc : (n : ℕ) (s : List ℕ) → preds_fields (suc n) s ≡ preds_fields n s + pred_fields (drop (preds_fields n s) s)
fields-suc zero s = let e : drop (preds_fields 0 s) s ≡ s = rw (fields_none s) refl in omega (arith, fields_next zero s, fields_none s, fields_none (drop (pred_fields s) s), ap pred_fields e)
fields-suc (suc n) s =
    let t = drop (pred_fields s) s in
    let i : preds_fields (suc n) t ≡ preds_fields n t + pred_fields (drop (preds_fields n t) t) = fields-suc n t in
    let b : pred_fields (drop (preds_fields n t) t) ≡ pred_fields (drop (preds_fields (suc n) s) s) = ap pred_fields (behind-them n s) in
    omega (arith, fields_next (suc n) s, fields_next n s, i, b)

preds-suc : (n : ℕ) (s : List ℕ) → preds_widened (suc n) s ≡ preds_widened n s ++ pred_widened (drop (preds_fields n s) s)
preds-suc zero s = preds_next zero s ∙ (rw (preds_none (drop (pred_fields s) s), preds_none s, fields_none s) (append-nil (pred_widened s)))
preds-suc (suc n) s =
    let t = drop (pred_fields s) s in
    preds_next (suc n) s
    ∙ ap (λ xs. pred_widened s ++ xs) (preds-suc n t ∙ ap (λ u. preds_widened n t ++ pred_widened u) (behind-them n s))
    ∙ sym (append_assoc (pred_widened s) (preds_widened n t) _)
    ∙ ap (λ xs. xs ++ pred_widened (drop (preds_fields (suc n) s) s)) (sym (preds_next n s))

pub fields_more : (n : ℕ) (s : List ℕ) → preds_fields (n + 1) s ≡ preds_fields n s + pred_fields (drop (preds_fields n s) s)
fields_more n s = rw add-one (fields-suc n s)

pub preds_more : (n : ℕ) (s : List ℕ) → preds_widened (n + 1) s ≡ preds_widened n s ++ pred_widened (drop (preds_fields n s) s)
preds_more n s = rw add-one (preds-suc n s)

fields-rise : (i n : ℕ) (s : List ℕ) → preds_fields i s ≤ preds_fields (i + n) s
fields-rise i zero s = let e : i + 0 ≡ i = omega arith in rw e (omega arith)
fields-rise i (suc n) s =
    let e : i + suc n ≡ suc (i + n) = omega arith in
    rw e (omega (arith, fields-rise i n s, fields-suc (i + n) s))

-- at the next of `n` predicates
module _ (i n : ℕ) {at : ℕ} (s : List ℕ) (e : at ≡ preds_fields i s) where
  pub next_fields : {k : ℕ} → k ≡ pred_fields (take (length s - at) (drop at s)) → at + k ≡ preds_fields (i + 1) s
  next_fields q = rw (q, whole s at, e) (sym (fields_more i s))

  pub next_wrote : preds_widened i s ++ pred_widened (take (length s - at) (drop at s)) ≡ preds_widened (i + 1) s
  next_wrote = rw (whole s at, e) (sym (preds_more i s))

  -- it ends where all do, or before
  module _ (h : i < n) (l : preds_fields n s ≤ length s) where
    pub next_ends : preds_fields (i + 1) s ≤ length s
    next_ends =
        let k : i + 1 + (n - (i + 1)) ≡ n = omega arith in
        omega (arith, rw k at (fields-rise (i + 1) (n - (i + 1)) s))

    pub next_inside : pred_fields (take (length s - at) (drop at s)) ≤ length (take (length s - at) (drop at s))
    next_inside = rw (whole s at) (omega (arith, next_ends, fields_more i s, length-drop at s, ap (λ k. pred_fields (drop k s)) e))

-- ---- what stands one behind another

pub pred_put : (s : List ℕ) {r g : ℕ} → r ≡ get_or s 2 0 → g ≡ get_or s 3 0
    → take 4 s ++ roles_widened r (take (length s - 4) (drop 4 s)) ++ take (4 + 3 * r + 2 * g - (4 + 3 * r)) (drop (4 + 3 * r) s) ≡ pred_widened s
unfolding pred_widened
pred_put s {r} {g} er eg =
    let k : 4 + 3 * r + 2 * g - (4 + 3 * r) ≡ 2 * g = omega arith in
    rw (whole s 4, k, er, eg) refl

pub plain_put : (types preds : ℕ) (t : List ℕ) → plain_fields types preds t ≤ length t
    → take (3 + 6 * types) t ++ preds_widened preds (take (length t - (3 + 6 * types)) (drop (3 + 6 * types) t))
    ++ take (length t - (length t - 1)) (drop (length t - 1) t) ≡ plain_widened types preds t
unfolding plain_widened
plain_put types preds t h =
    let k : length t - (length t - 1) ≡ 1 = omega arith in
    rw (whole t (3 + 6 * types), k) refl
