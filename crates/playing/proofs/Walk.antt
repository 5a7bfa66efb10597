-- One role, the roles of a predicate and all predicates: what was noted and marked, and what is left, come to all.
use Prim.Native.Nat.{ℕ, suc, ◌+◌, ◌*◌, ◌-◌, ◌≤◌, ◌<◌}
use native.Mathlib.Numerals.{add-one}
use native.Mathlib.Omega.{arith}
use mathlib.Core.Path.{◌≡◌, refl, sym, ap, ◌∙◌}
use mathlib.Core.Bool.{Bool, true, false, not, ◌&&◌, not-not}
use mathlib.Core.List.{List, [], ◌∷◌, ◌++◌, append-nil, append_assoc, map, flatten, zip_with}
use lib.Dec.{eqb}
use lib.ListN.{length, get_or, drop}
use borrow.Author.Tests.{eq-eqb, ne_eqb}
use Rattle.counting.specs.Lists.{map_from, column}
use Rattle.counting.specs.Distinct.{within, distinct}
use Rattle.orm.specs.Diagram.{Role, Predicate, is_mandatory}
use Rattle.orm.specs.Form.{◌to◌, in_range}
use Rattle.orm.specs.Constraints.{Played, played, values_in_roles, all_played}
use Rattle.faults.specs.Faults.{Fault, unless, given, lowered, faults_of}
use Rattle.faults.specs.Passes.{belongs, fills, limited, role_faults, roles_faults}
use Rattle.faults.specs.Laws.Lowest.{lowered-then}
use Rattle.std.specs.Prelude.{Result, Ok, Err}
use Rattle.std.specs.Result.{is_ok}
use Rattle.table.specs.Positions.{wide_role, pred_length, preds_in, role_width, roles_start, roles_in, type_count, pred_count, first_pred_at, diagram_of}
use Rattle.table.specs.Laws.Walks.{role-more, role-none, roles-here, preds_more, preds-none}
use Rattle.lookup.specs.Stamps.{among, all_met, met-end}
use Rattle.lookup.specs.Counts.{Fresh, Looked, Meets, meets, fresh-later}
use Rattle.blocks.specs.Blocks.{contents, pred_width, rows_at, rows_in, population_at}
use Rattle.blocks.specs.Starts.{Located, starts-preds}
use Rattle.blocks.specs.Standing.{PredHere, Standing, standing-next}
use Rattle.playing.specs.Places.{population_of, pred_at, rows_here}
use Rattle.playing.specs.Found.{played_as, told_by, Left, Heard, Found}

-- ---- one role

module _ (r : Role) (size n : ℕ) (e : List ℕ) {e₁ : List ℕ} {b : Bool} (a : e₁ ≡ lowered (unless b 7 n) e) where
  pub told-outside : {met : Result ℕ ℕ} → ((i : ℕ) → met ≡ Ok i → ⊥) → b ≡ is_ok met → e₁ ≡ lowered (told_by r met size n) e
  unfolding told_by
  told-outside {met} h p = go met h p
    where
      go : (o : Result ℕ ℕ) → ((i : ℕ) → o ≡ Ok i → ⊥) → b ≡ is_ok o → e₁ ≡ lowered (told_by r o size n) e
      go (Err i) h p = rw (told_by, ← p) a
      go (Ok i) h p = absurd (h i refl)

  pub told-inside : {met : Result ℕ ℕ} {count : ℕ} {f l : Bool} {e₂ e₃ : List ℕ} {mand low high : ℕ} → met ≡ Ok count → b ≡ is_ok met → mand ≡ r.mand
      → f ≡ (eqb mand 1 && not (eqb count size)) → e₂ ≡ lowered (unless (not f) 8 n) e₁
      → low ≡ r.rmin → high ≡ r.rmax → l ≡ in_range (low to high) count → e₃ ≡ lowered (unless l 11 n) e₂
      → e₃ ≡ lowered (told_by r met size n) e
  unfolding told_by is_mandatory
  told-inside q p m f g low high l c =
      let y : b ≡ true = p ∙ ap is_ok q in
      rw (q, told_by, lowered-then, ← y, ← a, lowered-then, ← m, ← f, ← g, ← low, ← high, ← l) c

module _ (x : Played) (number own k : ℕ) (ws ms e : List ℕ) {v : ℕ} (q : v ≡ x.role.type) where
  heard : (ms' e' : List ℕ) → e' ≡ lowered (role_faults number ws own x) e
      → ((us : List ℕ) → all_met ws ms' us ≡ all_met ws ms (values_in_roles number (x ∷ []) ++ us)) → Fresh ws ms' (k + 1)
      → Heard number ws own (x ∷ []) ms e ms' e' (k + 1)
  unfolding lowered flatten
  heard ms' e' n m f = record {
    all = record { faults = rw (append-nil (role_faults number ws own x)) n; met = m; fresh = f };
  }

  pub role-other : Fresh ws ms k → (v ≡ number → ⊥) → Heard number ws own (x ∷ []) ms e ms e (k + 1)
  unfolding role_faults values_in_roles given lowered
  role-other f n =
      let z : eqb x.role.type number ≡ false = rw (← q) (ne_eqb v number n) in
      heard ms e (rw (role_faults, z)) (λ us. rw (values_in_roles, z)) (fresh-later (k + 1) f (omega arith))

  pub role-own : {met : Result ℕ ℕ} {ms' e' : List ℕ} → Fresh ws ms k → Looked ws ms k x.values ms' met → v ≡ number
      → e' ≡ lowered (told_by x.role met (length ws) own) e
      → Heard number ws own (x ∷ []) ms e ms' e' (k + 1)
  unfolding role_faults values_in_roles given belongs limited fills told_by
  role-own {met} {ms'} {e'} f l p n =
      let z : eqb x.role.type number ≡ true = rw (← q) (eq-eqb v number p) in
      heard ms' e' (rw (role_faults, z) (only_if (within eqb x.values ws) refl (rw m.met at n)))
      (λ us. rw (values_in_roles, z, append-nil x.values) (m.marks us)) m.fresh
    where
      m : Meets ws x.values ms k ms' met
      m = meets f l

      filled : (b : Bool) → not (b && not (within eqb ws x.values)) ≡ elim b [ true ↦ within eqb ws x.values | false ↦ true ]
      filled true = not-not (within eqb ws x.values)
      filled false = refl

      only_if : (b : Bool) → within eqb x.values ws ≡ b
          → e' ≡ lowered (told_by x.role (elim b [ true ↦ Ok (length (distinct eqb x.values)) | false ↦ Err (length (distinct eqb (among ws x.values))) ]) (length ws) own) e
          → e' ≡ lowered (unless b 7 own ++ given b (unless (fills ws x) 8 own ++ unless (limited x) 11 own)) e
      only_if true h c = rw (m.fills h, filled (is_mandatory x.role)) at c
      only_if false h c = rw append-nil c

-- ---- one after another

module _ {ws : List ℕ} {fs₀ : List Fault} {vs₀ ms₀ e₀ ms e ms' e' : List ℕ} {k k' : ℕ} where
  left-more : (fs gs : List Fault) (vs us : List ℕ) → Left ws fs₀ vs₀ ms₀ e₀ (fs ++ gs) (vs ++ us) ms e k → Left ws fs vs ms e [] [] ms' e' k'
      → Left ws fs₀ vs₀ ms₀ e₀ gs us ms' e' k'
  unfolding lowered
  left-more fs gs vs us i h = record {
    faults = rw h.faults (sym (lowered-then fs gs e) ∙ i.faults);
    met = λ ts. h.met (us ++ ts) ∙ (rw append_assoc at (i.met ts));
    fresh = h.fresh;
  }

values_append : (number : ℕ) (xs ys : List Played) → values_in_roles number (xs ++ ys) ≡ values_in_roles number xs ++ values_in_roles number ys
unfolding values_in_roles
values_append number [] ys = refl
values_append number (x ∷ xs) ys = go (eqb x.role.type number) (values_append number xs ys)
  where
    go : (b : Bool) → values_in_roles number (xs ++ ys) ≡ values_in_roles number xs ++ values_in_roles number ys
        → elim b [ true ↦ x.values ++ values_in_roles number (xs ++ ys) | false ↦ values_in_roles number (xs ++ ys) ]
        ≡ elim b [ true ↦ x.values ++ values_in_roles number xs | false ↦ values_in_roles number xs ] ++ values_in_roles number ys
    go true h = ap (λ (l : List ℕ). x.values ++ l) h ∙ sym (append_assoc x.values (values_in_roles number xs) (values_in_roles number ys))
    go false h = h

-- ---- the roles of a predicate

-- the roles `rs`, the first of them with column j
abbrev played_from : ℕ → List Role → List (List ℕ) → List Played
played_from j rs rows = map_from (λ (i : ℕ) (r : Role). played_as r (column i rows)) j rs

module _ (t s : List ℕ) (number own pred at : ℕ) (ws ms₀ e₀ : List ℕ) (w : ℕ) where
  -- of the w roles of the predicate at `pred`, with its block at `at`, those from j on are left, from `role` on
  pub record RolesLeft (ms e : List ℕ) (role j k : ℕ) : Type 0 where
    pub left :
        let xs = played_from j (roles_in (w - j) (drop role t)) (rows_here t s pred at) in
        let xs₀ = played (pred_at t pred) (rows_here t s pred at) in
        Left ws (flatten (map (role_faults number ws own) xs₀)) (values_in_roles number xs₀) ms₀ e₀
        (flatten (map (role_faults number ws own) xs)) (values_in_roles number xs) ms e k

  pub roles-start : {role k : ℕ} → Fresh ws ms₀ (8 * own) → w ≡ get_or (drop pred t) 2 0 → role ≡ pred + roles_start → k ≡ 8 * own
      → RolesLeft ms₀ e₀ role 0 k
  unfolding played
  roles-start f q r e =
      let z : w - 0 ≡ w = omega arith in
      rw e (record { left = rw (z, roles-here t pred q r) (record { faults = refl; met = λ us. refl; fresh = f }) })

  module _ (ms e : List ℕ) (role j k : ℕ) (i : RolesLeft ms e role j k) (v : w ≡ pred_width (pred_at t pred)) where
    pub roles_more : {ms' e' vs : List ℕ} {role' k' : ℕ} → Heard number ws own (played_as (wide_role (drop role t)) vs ∷ []) ms e ms' e' (k + 1) → j < w
        → vs ≡ column j (rows_at w (drop at s)) → role' ≡ role + role_width → k' ≡ k + 1 → RolesLeft ms' e' role' (j + 1) k'
    unfolding map_from flatten
    roles_more {ms'} {e'} {vs} m h q er ek =
        let some : 0 < w - j = omega arith in
        let one : w - (j + 1) ≡ w - j - 1 = omega arith in
        let here : vs ≡ column j (rows_here t s pred at) = rw (← v) q in
        let rest : List Played = played_from (suc j) (roles_in (w - j - 1) (drop (role + role_width) t)) (rows_here t s pred at) in
        rw (er, ek) (record {
          left = rw (one, add-one j) (left-more _ (flatten (map (role_faults number ws own) rest)) _ (values_in_roles number rest)
              (rw (values_append number (_ ∷ []) rest) at (rw (role-more t role (w - j) some) at i.left)) (rw (here, append-nil) at m.all));
        })

    pub roles-end : PredHere t s pred at → w ≤ j → j ≤ w → k ≡ 8 * own + j
        → Heard number ws own (played (pred_at t pred) (rows_here t s pred at)) ms₀ e₀ ms e (8 * (own + 1))
    unfolding map_from flatten values_in_roles
    roles-end p h g q =
        let none : roles_in (w - j) (drop role t) ≡ [] = role-none (w - j) (drop role t) (omega arith) in
        let all = rw none at i.left in
        record {
          all = record {
            faults = all.faults;
            met = all.met;
            fresh = fresh-later (8 * (own + 1)) all.fresh (omega (arith, p.few));
          };
        }

-- ---- all predicates

module _ (t s starts : List ℕ) (number : ℕ) (ws ms₀ e₀ : List ℕ) where
  -- n predicates are left from `pred` of the table on, the first of them with the number `own` and its block at start k
  pub record PredsLeft (ms e : List ℕ) (pred k own n : ℕ) : Type 0 where
    pub left :
        let ps = preds_in n (drop pred t) in
        let os = rows_in ps (drop (get_or starts k 0) s) in
        let o = population_of t s in
        Left ws (faults_of (roles_faults number ws) 1 (diagram_of t).preds o.preds) (values_in_roles number (all_played (diagram_of t) o)) ms₀ e₀
        (faults_of (roles_faults number ws) own ps os) (values_in_roles number (flatten (zip_with played ps os))) ms e (8 * own)

  pub preds-start : {pred k left m : ℕ} → Fresh ws ms₀ 1 → Located t s starts → pred ≡ first_pred_at t → left ≡ pred_count t
      → m ≡ type_count t → k ≡ m → PredsLeft ms₀ e₀ pred k 1 left
  unfolding diagram_of population_at all_played
  preds-start f l p q e g =
      let z : drop (get_or starts (type_count t) 0) s ≡ _ = starts-preds l in
      record { left = rw (p, q, g, e, z) (record { faults = refl; met = λ us. refl; fresh = fresh-later 8 f (omega arith) }) }

  module _ (ms e : List ℕ) (pred k own left : ℕ) (i : PredsLeft ms e pred k own left) where
    pub preds-next : {ms' e' : List ℕ} {next k' own' left' : ℕ}
        → Heard number ws own (played (pred_at t pred) (rows_here t s pred (get_or starts k 0))) ms e ms' e' (8 * (own + 1))
        → Standing t s starts pred k left → 0 < left → next ≡ pred + pred_length (drop pred t) → k' ≡ k + 1 → own' ≡ own + 1 → left' ≡ left - 1
        → PredsLeft ms' e' next k' own' left'
    unfolding contents faults_of flatten zip_with roles_faults
    preds-next {ms'} {e'} {next} m st h q ek eo el =
        let ps : List Predicate = preds_in (left - 1) (drop next t) in
        let os : List (List (List ℕ)) = rows_in ps (drop (get_or starts (k + 1) 0) s) in
        let z = standing-next t s starts pred k left st h in
        rw (ek, eo, el) (record {
          left = left-more {k = 8 * own} _ (faults_of (roles_faults number ws) (own + 1) ps os) _ (values_in_roles number (flatten (zip_with played ps os)))
              (rw (add-one own, z, ← values_append) (rw (preds_more t pred left h q) at i.left)) m.all;
        })

    pub preds-end : left ≤ 0 → Found t s number ws ms₀ e₀ ms e
    unfolding faults_of contents flatten zip_with values_in_roles lowered
    preds-end h =
        let all = rw (preds-none left (drop pred t) h) at i.left in
        record { faults = all.faults; met = sym (met-end ws ms all.fresh.marked.long) ∙ all.met [] ∙ ap (all_met ws ms₀) (append-nil _) }
