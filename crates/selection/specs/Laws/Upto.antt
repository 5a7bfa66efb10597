-- One item more: what a loop over the first `n` numbers, roles or predicates has written or counted behind its next turn.
use Rattle.std.specs.Prelude.{ℕ, zero, suc, ◌+◌, ◌*◌, ◌-◌, ◌≤◌, ◌<◌, ◌≡◌, refl, Bool, true, false, List, [], ◌∷◌, ◌++◌, count_by, nat_eq, eqb, length, get_or, drop, take}
use Rattle.std.proofs.Common.{arith, ap, ap₂, cond, sym, ◌∙◌, add-one, append-nil, append_assoc, length-take-le, drop-drop, eq-eqb, ne_eqb}
use Rattle.std.specs.List.{filter}
use Rattle.std.proofs.lemmas.List.{take_more, take_at}
use Rattle.std.proofs.lemmas.List.Sums.{length-filter}
use Rattle.counting.specs.Lists.{when, up_from, each}
use Rattle.counting.proofs.Laws.Lines.{each-length}
use Rattle.counting.proofs.Laws.Range.{length-up_from, up_from_append}
use Rattle.orm.specs.Diagram.{Role, Predicate}
use Rattle.orm.specs.Sets.{select, roles_in_group}
use Rattle.table.specs.Positions.{role_width, wide_role, roles_in, preds_in, preds_length, roles_start, pred_of, pred_length, pred_count, first_pred_at, Walkable}
use Rattle.table.specs.Cursors.{Ahead}
use Rattle.table.specs.Laws.Walks.{ahead-here}
use Rattle.selection.specs.Selected.{positions, Passed}

pub up_from_none : (a : ℕ) → up_from a 0 ≡ []
unfolding up_from
up_from_none a = refl

up_from-suc : (a n : ℕ) → up_from a (suc n) ≡ up_from a n ++ (a + n) ∷ []
unfolding up_from
up_from-suc a zero = let e : a ≡ a + 0 = omega arith in ap (λ x. x ∷ []) e
up_from-suc a (suc n) =
    let e : suc a + n ≡ a + suc n = omega arith in
    ap (λ xs. a ∷ xs) (up_from-suc (suc a) n ∙ ap (λ x. up_from (suc a) n ++ x ∷ []) e)

pub up_from_more : (a n : ℕ) → up_from a (n + 1) ≡ up_from a n ++ (a + n) ∷ []
up_from_more a n = rw add-one (up_from-suc a n)

pub take-up_from : (a n : ℕ) {k : ℕ} → k ≤ n → take k (up_from a n) ≡ up_from a k
take-up_from a n {k} h =
    let e : n ≡ k + (n - k) = omega arith in
    ap (λ m. take k (up_from a m)) e ∙ ap (take k) (up_from_append a k (n - k)) ∙ take_at (up_from a k) (up_from (a + k) (n - k)) k (length-up_from a k)

-- ---- lines of so many numbers

module _ {A : Type 0} (make : List ℕ → A) (k : ℕ) where
  pub each-nothing : (s : List ℕ) → each make k 0 s ≡ []
  unfolding each
  each-nothing s = refl

  each-suc : (n : ℕ) (s : List ℕ) → each make k (suc n) s ≡ each make k n s ++ make (drop (k * n) s) ∷ []
  unfolding each
  each-suc zero s = let e : 0 ≡ k * 0 = omega arith in ap (λ m. make (drop m s) ∷ []) e
  each-suc (suc n) s =
      let e : k + k * n ≡ k * suc n = omega arith in
      ap (λ xs. make s ∷ xs) (each-suc n (drop k s) ∙ ap (λ z. each make k n (drop k s) ++ make z ∷ []) (drop-drop (k * n) k s ∙ ap (λ m. drop m s) e))

  pub each-next : (t : List ℕ) (q n : ℕ) → each make k (n + 1) (drop q t) ≡ each make k n (drop q t) ++ make (drop (q + k * n) t) ∷ []
  each-next t q n = rw (add-one, ← drop-drop (k * n) q t) (each-suc n (drop q t))

-- ---- roles that pass a test

module _ (test : Role → Bool) where
  select-append : (i : ℕ) (rs ps : List Role) → select test i (rs ++ ps) ≡ select test i rs ++ select test (i + length rs) ps
  unfolding select
  select-append i [] ps = let e : i ≡ i + 0 = omega arith in ap (λ j. select test j ps) e
  select-append i (r ∷ rs) ps = go (test r) (select-append (suc i) rs ps ∙ ap (λ j. select test (suc i) rs ++ select test j ps) e)
    where
      e : suc i + length rs ≡ i + suc (length rs)
      e = omega arith

      go : (b : Bool) → select test (suc i) (rs ++ ps) ≡ select test (suc i) rs ++ select test (i + suc (length rs)) ps
          → elim b as (λ _. List ℕ) [ true ↦ i ∷ select test (suc i) (rs ++ ps) | false ↦ select test (suc i) (rs ++ ps) ]
          ≡ elim b as (λ _. List ℕ) [ true ↦ i ∷ select test (suc i) rs | false ↦ select test (suc i) rs ] ++ select test (i + suc (length rs)) ps
      go true w = ap {B = List ℕ} (λ l. i ∷ l) w
      go false w = w

  select-one : (i : ℕ) (r : Role) → select test i (r ∷ []) ≡ when (test r) i
  unfolding select
  select-one i r = go (test r)
    where
      go : (b : Bool) → elim b as (λ _. List ℕ) [ true ↦ i ∷ [] | false ↦ [] ] ≡ when b i
      go true = refl
      go false = refl

-- ---- the roles from position q on of a table

module _ (t : List ℕ) (q : ℕ) where
  pub roles_none : roles_in 0 (drop q t) ≡ []
  roles_none = each-nothing wide_role role_width (drop q t)

  pub roles_next : (n : ℕ) → roles_in (n + 1) (drop q t) ≡ roles_in n (drop q t) ++ wide_role (drop (q + role_width * n) t) ∷ []
  roles_next n = each-next wide_role role_width t q n

  module _ (number first : ℕ) where
    pub in_group_none : roles_in_group number first (roles_in 0 (drop q t)) ≡ []
    unfolding roles_in_group select
    in_group_none = ap (roles_in_group number first) roles_none

    in_group-next : (n : ℕ) → roles_in_group number first (roles_in (n + 1) (drop q t))
        ≡ roles_in_group number first (roles_in n (drop q t)) ++ when (eqb (get_or (drop (q + role_width * n) t) 2 0) number) (first + n)
    unfolding roles_in_group
    in_group-next n =
        let rs : List Role = roles_in n (drop q t) in
        let r : Role = wide_role (drop (q + role_width * n) t) in
        let test : Role → Bool = λ (a : Role). eqb a.group number in
        ap (select test first) (roles_next n) ∙ select-append test first rs (r ∷ [])
        ∙ ap (λ m. select test first rs ++ select test (first + m) (r ∷ [])) (each-length wide_role role_width n (drop q t))
        ∙ ap (λ ys. select test first rs ++ ys) (select-one test (first + n) r)

    module _ (n : ℕ) {v : ℕ} (e : v ≡ get_or (drop (q + role_width * n) t) 2 0) where
      pub in_group_more : v ≡ number → roles_in_group number first (roles_in (n + 1) (drop q t))
          ≡ roles_in_group number first (roles_in n (drop q t)) ++ (first + n) ∷ []
      in_group_more h = in_group-next n ∙ rw (← e, eq-eqb v number h)

      pub in_group_same : (v ≡ number → ⊥) → roles_in_group number first (roles_in (n + 1) (drop q t))
          ≡ roles_in_group number first (roles_in n (drop q t))
      in_group_same h = in_group-next n ∙ rw (← e, ne_eqb v number h) (append-nil (roles_in_group number first (roles_in n (drop q t))))

-- ---- the roles of a type

module _ (number : ℕ) where
  pub positions_none : (i : ℕ) → positions number i [] ≡ []
  unfolding positions
  positions_none i = refl

  positions-append : (i : ℕ) (xs ys : List ℕ) → positions number i (xs ++ ys) ≡ positions number i xs ++ positions number (i + length xs) ys
  unfolding positions
  positions-append i [] ys = let e : i ≡ i + 0 = omega arith in ap (λ j. positions number j ys) e
  positions-append i (x ∷ xs) ys =
      let e : suc i + length xs ≡ i + suc (length xs) = omega arith in
      ap (λ l. when (eqb x number) i ++ l) (positions-append (suc i) xs ys ∙ ap (λ j. positions number (suc i) xs ++ positions number j ys) e)
      ∙ sym (append_assoc (when (eqb x number) i) (positions number (suc i) xs) (positions number (i + suc (length xs)) ys))

  module _ (first : ℕ) (xs : List ℕ) (i : ℕ) (h : i < length xs) where
    positions-next : positions number first (take (i + 1) xs) ≡ positions number first (take i xs) ++ when (eqb (get_or xs i 0) number) (first + i)
    unfolding positions
    positions-next =
        ap (positions number first) (take_more xs i 0 h) ∙ positions-append first (take i xs) (get_or xs i 0 ∷ [])
        ∙ ap (λ m. positions number first (take i xs) ++ (when (eqb (get_or xs i 0) number) (first + m) ++ [])) (length-take-le i xs (omega arith))
        ∙ ap (λ l. positions number first (take i xs) ++ l) (append-nil (when (eqb (get_or xs i 0) number) (first + i)))

    pub positions_more : get_or xs i 0 ≡ number → positions number first (take (i + 1) xs) ≡ positions number first (take i xs) ++ (first + i) ∷ []
    positions_more e = positions-next ∙ rw (eq-eqb (get_or xs i 0) number e)

    pub positions_same : (get_or xs i 0 ≡ number → ⊥) → positions number first (take (i + 1) xs) ≡ positions number first (take i xs)
    positions_same e = positions-next ∙ rw (ne_eqb (get_or xs i 0) number e) (append-nil (positions number first (take i xs)))

  filtered : (i : ℕ) (xs : List ℕ) → length (filter (λ x. eqb x number) xs) ≡ length (positions number i xs)
  unfolding positions
  filtered i [] = refl
  filtered i (x ∷ xs) = go (eqb x number) (filtered (suc i) xs)
    where
      go : (b : Bool) → length (filter (λ x. eqb x number) xs) ≡ length (positions number (suc i) xs)
          → length (cond b (x ∷ filter (λ x. eqb x number) xs) (filter (λ x. eqb x number) xs)) ≡ length (when b i ++ positions number (suc i) xs)
      go true e = ap suc e
      go false e = e

  pub positions_counted : (i : ℕ) (xs : List ℕ) → count_by (λ x. nat_eq x number) xs ≡ length (positions number i xs)
  positions_counted i xs = sym (length-filter (λ x. nat_eq x number) xs) ∙ filtered i xs

-- ---- the first `k` predicates of a table, and the one behind them

preds_split : (n k : ℕ) (s : List ℕ) → k ≤ n → preds_in n s ≡ preds_in k s ++ preds_in (n - k) (drop (preds_length k s) s)
unfolding preds_in preds_length
preds_split n zero s h = let e : n ≡ n - 0 = omega arith in ap (λ m. preds_in m s) e
preds_split zero (suc k) s h = absurd (omega arith)
preds_split (suc n) (suc k) s h =
    let next : List ℕ = drop (pred_length s) s in
    let e : n - k ≡ suc n - suc k = omega arith in
    ap (λ ps. pred_of s ∷ ps) (preds_split n k next (omega arith)
    ∙ ap₂ (λ m z. preds_in k next ++ preds_in m z) e (drop-drop (preds_length k next) (pred_length s) s))

lengths_split : (n k : ℕ) (s : List ℕ) → k ≤ n → preds_length n s ≡ preds_length k s + preds_length (n - k) (drop (preds_length k s) s)
unfolding preds_length
lengths_split n zero s h = let e : n ≡ n - 0 = omega arith in omega (arith, ap (λ m. preds_length m s) e)
lengths_split zero (suc k) s h = absurd (omega arith)
lengths_split (suc n) (suc k) s h =
    let next : List ℕ = drop (pred_length s) s in
    let e : n - k ≡ suc n - suc k = omega arith in
    let rest : preds_length (n - k) (drop (preds_length k next) next) ≡ preds_length (suc n - suc k) (drop (pred_length s + preds_length k next) s) =
    ap₂ (λ m z. preds_length m z) e (drop-drop (preds_length k next) (pred_length s) s) in
    omega (arith, lengths_split n k next (omega arith), rest)

preds_one : (s : List ℕ) → preds_in 1 s ≡ pred_of s ∷ []
unfolding preds_in
preds_one s = refl

lengths_one : (s : List ℕ) → preds_length 1 s ≡ pred_length s
unfolding preds_length
lengths_one s = omega arith

abbrev pub first_preds : ℕ → List ℕ → List Predicate
first_preds k t = preds_in k (drop (first_pred_at t) t)

pub passed-start : (t : List ℕ) {q : ℕ} → q ≡ first_pred_at t → Passed t q 0
unfolding preds_length
passed-start t e = record { at = e ∙ omega arith }

pub first_preds_none : (t : List ℕ) → first_preds 0 t ≡ []
unfolding preds_in
first_preds_none t = refl

module _ {t : List ℕ} {q k : ℕ} (p : Passed t q k) where
  behind : drop (preds_length k (drop (first_pred_at t) t)) (drop (first_pred_at t) t) ≡ drop q t
  behind = drop-drop (preds_length k (drop (first_pred_at t) t)) (first_pred_at t) t ∙ ap (λ m. drop m t) (sym p.at)

  pub first_preds_more : first_preds (k + 1) t ≡ first_preds k t ++ pred_of (drop q t) ∷ []
  first_preds_more =
      let e : k + 1 - k ≡ 1 = omega arith in
      preds_split (k + 1) k (drop (first_pred_at t) t) (omega arith) ∙ rw (e, behind) (ap (λ ps. first_preds k t ++ ps) (preds_one (drop q t)))

  pub passed_more : {next : ℕ} → next ≡ q + pred_length (drop q t) → Passed t next (k + 1)
  passed_more {next} en =
      let e : k + 1 - k ≡ 1 = omega arith in
      let one : preds_length (k + 1 - k) (drop (preds_length k (drop (first_pred_at t) t)) (drop (first_pred_at t) t)) ≡ pred_length (drop q t) =
      rw (e, behind) (lengths_one (drop q t)) in
      record { at = omega (arith, en, p.at, one, lengths_split (k + 1) k (drop (first_pred_at t) t) (omega arith)) }

  module _ (w : Walkable t) (n : ℕ) (en : n ≡ pred_count t) (h : k < n) where
    pub passed-ahead : Ahead t q (n - k)
    passed-ahead =
        let rest : preds_length (n - k) (drop (preds_length k (drop (first_pred_at t) t)) (drop (first_pred_at t) t)) ≡ preds_length (n - k) (drop q t) =
        ap (preds_length (n - k)) behind in
        record { inside = omega (arith, w.whole, ap (λ m. preds_length m (drop (first_pred_at t) t)) en, p.at, rest, lengths_split n k (drop (first_pred_at t) t) (omega arith)) }

    pub passed-inside : q + pred_length (drop q t) ≤ length t
    passed-inside = ahead-here t q (n - k) passed-ahead (omega arith)

    pub passed-third : q + 2 < length t
    passed-third = omega (arith, passed-inside)

    pub passed-roles : {r roles : ℕ} → r ≡ get_or (drop q t) 2 0 → roles ≡ q + roles_start → roles + role_width * r ≤ length t
    passed-roles er e = omega (arith, passed-inside, er, e)

    pub passed-rest : first_preds n t ≡ first_preds k t ++ preds_in (n - k) (drop q t)
    passed-rest = preds_split n k (drop (first_pred_at t) t) (omega arith) ∙ ap (λ z. first_preds k t ++ preds_in (n - k) z) behind
