-- Whether a type plays a role, role by role and predicate by predicate, and whether it must.
use Rattle.std.specs.Prelude.{ℕ, suc, ◌+◌, ◌*◌, ◌-◌, ◌<◌, ◌≡◌, refl, Bool, true, false, ◌||◌, ltb, eqb, length, get_or, drop}
use Rattle.std.proofs.Common.{arith, ◌∙◌, drop-drop, append-nil, eq-eqb}
use Rattle.std.proofs.Math.Bool.{or-true}
use Rattle.std.proofs.Math.Path.{sym, ap}
use mathlib.Core.List.{List, [], ◌∷◌, ◌++◌, flat_map, map-append}
use Rattle.std.proofs.lemmas.Grind.{flat_map-append}
use borrow.Author.Tests.{lt-ltb, ne_eqb}
use Rattle.counting.specs.Lists.{when}
use Rattle.counting.specs.Index.{At, first, later}
use Rattle.counting.specs.Distinct.{member}
use Rattle.counting.proofs.Laws.Distinct.{member_append}
use Rattle.counting.proofs.Laws.Instances.{eqb-sym}
use Rattle.counting.proofs.Laws.Lines.{each_at}
use Rattle.orm.specs.Diagram.{Role, Predicate, all_roles, is_root, is_independent, plays, must_play}
use Rattle.orm.specs.Form.{type_of}
use Rattle.table.specs.Positions.{role_width, wide_role, roles_in, roles_start, roles_of, pred_of, preds_in, pred_length, pred_count, first_pred_at, diagram_of, Walkable}
use Rattle.table.specs.Laws.Walks.{roles-here, preds_more}
use Rattle.selection.specs.Selected.{types_of, positions, Types, Passed}
use Rattle.selection.specs.Laws.Upto.{roles_none, roles_next, first_preds, first_preds_none, first_preds_more, passed-start, passed_more, passed-rest}

plays_append : (number : ℕ) (rs qs : List Role) → plays number (rs ++ qs) ≡ (plays number rs || plays number qs)
unfolding plays
plays_append number rs qs = ap (member eqb number) (map-append (λ (r : Role). r.type) rs qs) ∙ member_append eqb number (types_of rs) (types_of qs)

-- ---- the roles passed are of other types

plays_at : (number : ℕ) {r : Role} {rs : List Role} {i : ℕ} → At r rs i → eqb number r.type ≡ true → true ≡ plays number rs
unfolding plays member
plays_at number (first {x} {xs} e) h = rw (ap (λ (r : Role). eqb number r.type) (sym e) ∙ h)
plays_at number (later {x} {xs} a) h = sym (rw (← plays_at number a h, or-true))

module _ (t : List ℕ) (q number : ℕ) where
  pub plays_none : plays number (roles_in 0 (drop q t)) ≡ false
  unfolding plays member
  plays_none = ap (plays number) (roles_none t q)

  module _ (i : ℕ) {v : ℕ} (e : v ≡ get_or (drop (q + role_width * i) t) 0 0) where
    pub plays_more : (v ≡ number → ⊥) → plays number (roles_in i (drop q t)) ≡ false → plays number (roles_in (i + 1) (drop q t)) ≡ false
    unfolding plays member
    plays_more h w =
        ap (plays number) (roles_next t q i) ∙ plays_append number (roles_in i (drop q t)) (wide_role (drop (q + role_width * i) t) ∷ [])
        ∙ rw (w, ← e, ne_eqb number v (λ p. h (sym p)))

    pub plays_found : {count : ℕ} → i < count → v ≡ number → true ≡ plays number (roles_in count (drop q t))
    plays_found {count} h p =
        let here : At (wide_role (drop (role_width * i) (drop q t))) (roles_in count (drop q t)) i = each_at wide_role role_width count (drop q t) i h in
        let same : drop (role_width * i) (drop q t) ≡ drop (q + role_width * i) t = drop-drop (role_width * i) q t in
        plays_at number here (ap (λ z. eqb number (get_or z 0 0)) same ∙ rw (← e, p) (eq-eqb number number refl))

-- ---- the predicates passed have no role of the type

abbrev pub plays_within : ℕ → List Predicate → Bool
plays_within number ps = plays number (flat_map (λ (p : Predicate). p.roles) ps)

within_append : (number : ℕ) (ps qs : List Predicate) → plays_within number (ps ++ qs) ≡ (plays_within number ps || plays_within number qs)
unfolding flat_map
within_append number ps qs =
    ap (plays number) (flat_map-append (λ (p : Predicate). p.roles) ps qs)
    ∙ plays_append number (flat_map (λ (p : Predicate). p.roles) ps) (flat_map (λ (p : Predicate). p.roles) qs)

-- The first `k` predicates, with the next one at q, have no role of the type
pub record PlaysNone (t : List ℕ) (number q k : ℕ) : Type 0 where
  pub passed : Passed t q k
  pub none : plays_within number (first_preds k t) ≡ false

module _ (t : List ℕ) (number : ℕ) where
  pub within_none : {q : ℕ} → q ≡ first_pred_at t → PlaysNone t number q 0
  unfolding plays member flat_map
  within_none e = record { passed = passed-start t e; none = ap (plays_within number) (first_preds_none t) }

  pub within_all : {q n : ℕ} → PlaysNone t number q n → n ≡ pred_count t → false ≡ plays number (all_roles (diagram_of t))
  unfolding all_roles diagram_of
  within_all w e = rw e at (sym w.none)

  module _ {q k : ℕ} (w : PlaysNone t number q k) {r roles : ℕ} {b : Bool} (er : r ≡ get_or (drop q t) 2 0) (ep : roles ≡ q + roles_start)
      (eb : b ≡ plays number (roles_in r (drop roles t))) where
    own : b ≡ plays number (roles_of (drop q t))
    own = eb ∙ ap (plays number) (roles-here t q er ep)

    pub within_more : {next : ℕ} → b ≡ false → next ≡ q + pred_length (drop q t) → PlaysNone t number next (k + 1)
    unfolding flat_map
    within_more e en = record {
      passed = passed_more w.passed en;
      none =
          ap (plays_within number) (first_preds_more w.passed) ∙ within_append number (first_preds k t) (pred_of (drop q t) ∷ [])
          ∙ rw (w.none, append-nil) (sym own ∙ e);
    }

    pub within_found : {n : ℕ} → Walkable t → n ≡ pred_count t → k < n → b ≡ true → true ≡ plays number (all_roles (diagram_of t))
    unfolding all_roles diagram_of flat_map
    within_found {n} a en h e =
        let rest : List Predicate = preds_in (n - k - 1) (drop (q + pred_length (drop q t)) t) in
        let whole : first_preds (pred_count t) t ≡ first_preds k t ++ pred_of (drop q t) ∷ rest =
        ap (λ m. first_preds m t) (sym en) ∙ passed-rest w.passed a n en h
        ∙ ap (λ ps. first_preds k t ++ ps) (preds_more t q (n - k) (omega arith) refl) in
        sym (ap (plays_within number) whole ∙ within_append number (first_preds k t) (pred_of (drop q t) ∷ rest)
        ∙ rw w.none (plays_append number (roles_of (drop q t)) (flat_map (λ (p : Predicate). p.roles) rest) ∙ rw (← own, e)))

-- ---- by the types of all roles

some-position : (number i : ℕ) (xs : List ℕ) → ltb 0 (length (positions number i xs)) ≡ member eqb number xs
unfolding positions member
some-position number i [] = refl
some-position number i (x ∷ xs) = rw (eqb-sym number x) (go (eqb x number) (some-position number (suc i) xs))
  where
    go : (b : Bool) → ltb 0 (length (positions number (suc i) xs)) ≡ member eqb number xs
        → ltb 0 (length (when b i ++ positions number (suc i) xs)) ≡ (b || member eqb number xs)
    go true e = lt-ltb 0 (suc (length (positions number (suc i) xs))) (omega arith)
    go false e = e

pub counted-plays : (t types : List ℕ) (number : ℕ) {own : ℕ} → Types t types → own ≡ length (positions number 0 types)
    → ltb 0 own ≡ plays number (all_roles (diagram_of t))
unfolding plays
counted-plays t types number w e = rw (e, some-position number 0 types, w.are)

-- ---- who must play

module _ (t : List ℕ) (q number : ℕ) {indep : ℕ} (e : indep ≡ get_or (drop q t) 5 0) where
  pub independent_free : indep ≡ 1 → false ≡ must_play (diagram_of t) number (type_of (drop q t))
  unfolding must_play is_independent
  independent_free h = rw (← e, h)

  module _ {super : ℕ} (n : indep ≡ 1 → ⊥) (es : super ≡ get_or (drop q t) 4 0) where
    pub root-must : super ≡ 0 → true ≡ must_play (diagram_of t) number (type_of (drop q t))
    unfolding must_play is_independent is_root
    root-must h = rw (← e, ne_eqb indep 1 n, ← es, h)

    pub subtype-must : {playing : Bool} → (super ≡ 0 → ⊥) → playing ≡ plays number (all_roles (diagram_of t))
        → playing ≡ must_play (diagram_of t) number (type_of (drop q t))
    unfolding must_play is_independent is_root
    subtype-must h p = rw (← e, ne_eqb indep 1 n, ← es, ne_eqb super 0 h) p
