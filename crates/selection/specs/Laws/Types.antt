-- A number for each role, its type or another, written in file order: what a turn of a loop writes and what it leaves.
use Rattle.std.specs.Prelude.{ℕ, ◌+◌, ◌*◌, ◌-◌, ◌≤◌, ◌<◌, ◌≡◌, refl, length, get_or, drop}
use Rattle.std.proofs.Common.{arith, sym, ◌∙◌, append-nil}
use Rattle.std.proofs.lemmas.Grind.{flat_map-append}
use Rattle.std.proofs.Math.Path.{ap}
use mathlib.Core.List.{List, [], ◌∷◌, ◌++◌, map, flat_map, map-append}
use Rattle.std.proofs.lemmas.List.{length-map}
use Rattle.orm.specs.Diagram.{Role, Predicate, all_roles}
use Rattle.buffer.specs.declared.output.Output.{Output}
use Rattle.buffer.specs.Written.{Writing}
use Rattle.buffer.specs.Laws.{writing_start}
use Rattle.table.specs.Positions.{role_width, wide_role, roles_in, roles_start, roles_of, preds_in, pred_length, pred_of, pred_count, first_pred_at, diagram_of}
use Rattle.table.specs.Laws.Walks.{role-more, role-none, roles-here, preds_more, preds-none, ahead-here}
use Rattle.table.specs.Cursors.{Ahead}
use Rattle.selection.specs.Selected.{types_of, Types, Passed}
use Rattle.selection.specs.Laws.Upto.{first_preds, first_preds_none, first_preds_more}

-- Of the roles of these predicates
abbrev pub within : (Role → ℕ) → List Predicate → List ℕ
within f ps = map f (flat_map (λ (p : Predicate). p.roles) ps)

pub roles-inside : (t : List ℕ) (p n : ℕ) {r q : ℕ} → Ahead t p n → 0 < n → r ≡ get_or (drop p t) 2 0 → q ≡ p + roles_start → q + role_width * r ≤ length t
roles-inside t p n a h e eq = omega (arith, ahead-here t p n a h, e)

module _ (f : Role → ℕ) (t : List ℕ) where
  -- role by role
  module _ (q n : ℕ) where
    -- `i` of them passed
    pub numbers_more : (i : ℕ) {x : ℕ} → x ≡ f (wide_role (drop q t)) → i < n
        → map f (roles_in (n - i) (drop q t)) ≡ (x ∷ []) ++ map f (roles_in (n - (i + 1)) (drop (q + role_width) t))
    numbers_more i e h =
        let less : n - i - 1 ≡ n - (i + 1) = omega arith in
        ap (map f) (role-more t q (n - i) (omega arith)) ∙ rw (e, less) refl

    pub numbers-none : n ≤ 0 → map f (roles_in n (drop q t)) ≡ []
    numbers-none h = ap (map f) (role-none n (drop q t) h)

  -- predicate by predicate
  pub within-start : (o : Output ℕ) {p n : ℕ} → p ≡ first_pred_at t → n ≡ pred_count t
      → Writing o (map f (all_roles (diagram_of t))) o (within f (preds_in (n - 0) (drop p t)))
  unfolding all_roles diagram_of
  within-start o {n = n} ep en =
      let all : n - 0 ≡ pred_count t = omega arith in
      rw (ep, all) (writing_start o (map f (all_roles (diagram_of t))))

  module _ (p n : ℕ) where
    -- `i` of them passed
    pub within-next : (i : ℕ) {e r q : ℕ} → i < n → e ≡ p + pred_length (drop p t) → r ≡ get_or (drop p t) 2 0 → q ≡ p + roles_start
        → within f (preds_in (n - i) (drop p t)) ≡ map f (roles_in r (drop q t)) ++ within f (preds_in (n - (i + 1)) (drop e t))
    unfolding flat_map
    within-next i {e} {r} {q} h ee er eq =
        let less : n - i - 1 ≡ n - (i + 1) = omega arith in
        let rest : List Role = flat_map (λ (x : Predicate). x.roles) (preds_in (n - i - 1) (drop e t)) in
        ap (within f) (preds_more t p (n - i) (omega arith) ee) ∙ map-append f (roles_of (drop p t)) rest
        ∙ ap (λ (rs : List Role). map f rs ++ map f rest) (sym (roles-here t p er eq))
        ∙ ap (λ (k : ℕ). map f (roles_in r (drop q t)) ++ within f (preds_in k (drop e t))) less

    pub within_end : n ≤ 0 → within f (preds_in n (drop p t)) ≡ []
    unfolding flat_map
    within_end h = ap (within f) (preds-none n (drop p t) h)

pub types-counted : (t types : List ℕ) {n : ℕ} → n ≡ length types → Types t types → n ≡ length (all_roles (diagram_of t))
types-counted t types e w = e ∙ rw w.are (length-map (all_roles (diagram_of t)) (λ (r : Role). r.type))

-- The types of the roles of the first `k` predicates, with the next one at q
abbrev pub types_within : List Predicate → List ℕ
types_within ps = types_of (flat_map (λ (p : Predicate). p.roles) ps)

module _ (t : List ℕ) where
  pub types_none : types_within (first_preds 0 t) ≡ []
  unfolding flat_map
  types_none = ap types_within (first_preds_none t)

  pub types_all : {n : ℕ} → n ≡ pred_count t → types_within (first_preds n t) ≡ types_of (all_roles (diagram_of t))
  unfolding all_roles diagram_of
  types_all e = rw e

  pub types_more : {q k r roles : ℕ} → Passed t q k → r ≡ get_or (drop q t) 2 0 → roles ≡ q + roles_start
      → types_within (first_preds (k + 1) t) ≡ types_within (first_preds k t) ++ types_of (roles_in r (drop roles t))
  unfolding flat_map
  types_more {q} {k} p er eq =
      let roles_of_all : List Predicate → List Role = flat_map (λ (a : Predicate). a.roles) in
      ap types_within (first_preds_more p)
      ∙ ap types_of (flat_map-append (λ (a : Predicate). a.roles) (first_preds k t) (pred_of (drop q t) ∷ []) ∙ rw append-nil)
      ∙ map-append (λ (a : Role). a.type) (roles_of_all (first_preds k t)) (roles_of (drop q t))
      ∙ ap (λ rs. types_within (first_preds k t) ++ types_of rs) (sym (roles-here t q er eq))
