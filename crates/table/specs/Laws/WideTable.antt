-- `diagram_of` undoes `wide_table`: the table of a well-formed diagram, with role lines of one width, gives by positions that diagram. Up to its first
-- number it is the table of `diagram=2`.
use Prim.Native.Nat.{ℕ, suc, ◌+◌, ◌*◌, ◌≤◌}
use Rattle.std.proofs.Math.Nat.{mul-suc}
use native.Mathlib.Omega.{arith}
use Rattle.std.specs.Prelude.{◌≡◌, get_or}
use Rattle.std.proofs.Math.Path.{refl, ap, ap₂}
use Rattle.std.proofs.Common.{sym, ◌∙◌, drop-drop}
use mathlib.Core.List.{List, [], ◌∷◌, ◌++◌, map, flat_map, append_assoc}
use Rattle.std.proofs.Math.ListN.{length, drop, length-append}
use Rattle.std.proofs.Math.Seq.{drop_at}
use Rattle.counting.proofs.Laws.Maps.{flat_map_append}
use Rattle.orm.specs.Diagram.{ObjectType, Role, Frequency, Predicate, Diagram, Line, line_of_type, line_of_role, line_of_group, line_of_pred}
use Rattle.orm.specs.Diagram.{lines_of_pred, line_of_count, preds_line, end_line, limits_roles, all_roles, lines, table}
use Rattle.orm.specs.Form.{type_of, group_of}
use Rattle.orm.specs.WellFormed.{WellFormed}
use Rattle.reading.specs.WideTable.{role_width, wide_role, wide_table}
use Rattle.reading.specs.WideLines.{wide_as_limited}
use Rattle.table.specs.Positions.{each, types_in, roles_in, groups_in, pred_of, roles_start, pred_length, preds_in, preds_length, pred_count, first_pred_at, diagram_of}

-- The numbers of some lines
unfoldable pub values : List Line → List ℕ
values ls = flat_map (λ (l : Line). l.values) ls

pub values_append : (ls ks : List Line) → values (ls ++ ks) ≡ values ls ++ values ks
unfolding values
values_append = flat_map_append (λ (l : Line). l.values)

-- lines of one kind, `k` numbers each
module _ {A : Type 0} (make : List ℕ → A) (k : ℕ) (line_of : A → Line) (made : (a : A) (s : List ℕ) → make ((line_of a).values ++ s) ≡ a)
    (long : (a : A) → length (line_of a).values ≡ k) where
  each_back : (xs : List A) (s : List ℕ) → each make k (length xs) (values (map line_of xs) ++ s) ≡ xs
  unfolding each values flat_map
  each_back [] s = refl
  each_back (a ∷ xs) s =
      rw append_assoc
      (ap₂ {C = List A} (λ y ys. y ∷ ys) (made a (values (map line_of xs) ++ s))
      (ap (each make k (length xs)) (drop_at (line_of a).values (values (map line_of xs) ++ s) k (long a))
      ∙ each_back xs s))

  each_long : (xs : List A) → length (values (map line_of xs)) ≡ k * length xs
  unfolding values flat_map
  each_long [] = omega arith
  each_long (a ∷ xs) = omega (arith, length-append (line_of a).values (values (map line_of xs)), long a, each_long xs, mul-suc k (length xs))

types-back : (ts : List ObjectType) (s : List ℕ) → types_in (length ts) (values (map line_of_type ts) ++ s) ≡ ts
unfolding line_of_type
types-back = each_back type_of 6 line_of_type (λ t s. refl) (λ t. refl)

types_long : (ts : List ObjectType) → length (values (map line_of_type ts)) ≡ 6 * length ts
unfolding line_of_type
types_long = each_long type_of 6 line_of_type (λ t s. refl) (λ t. refl)

roles-back : (rs : List Role) (s : List ℕ) → roles_in (length rs) (values (map (line_of_role 2) rs) ++ s) ≡ rs
unfolding line_of_role limits_roles
roles-back = each_back wide_role role_width (line_of_role 2) (λ r s. refl) (λ r. refl)

roles-long : (rs : List Role) → length (values (map (line_of_role 2) rs)) ≡ role_width * length rs
unfolding line_of_role limits_roles
roles-long = each_long wide_role role_width (line_of_role 2) (λ r s. refl) (λ r. refl)

groups-back : (gs : List Frequency) (s : List ℕ) → groups_in (length gs) (values (map line_of_group gs) ++ s) ≡ gs
unfolding line_of_group
groups-back = each_back group_of 2 line_of_group (λ g s. refl) (λ g. refl)

groups-long : (gs : List Frequency) → length (values (map line_of_group gs)) ≡ 2 * length gs
unfolding line_of_group
groups-long = each_long group_of 2 line_of_group (λ g s. refl) (λ g. refl)

module _ (p : Predicate) (s : List ℕ) where
  head : List ℕ
  head = (line_of_pred p).values

  roles : List ℕ
  roles = values (map (line_of_role 2) p.roles)

  groups : List ℕ
  groups = values (map line_of_group p.groups)

  whole : List ℕ
  whole = head ++ (roles ++ (groups ++ s))

  pred-whole : values (lines_of_pred 2 p) ++ s ≡ whole
  unfolding whole head roles groups lines_of_pred flat_map values line_of_pred
  pred-whole =
      ap (λ (x : List ℕ). head ++ x)
      (ap (λ (x : List ℕ). x ++ s) (values_append (map (line_of_role 2) p.roles) (map line_of_group p.groups)) ∙ append_assoc roles groups s)

  groups-at : drop (roles_start + role_width * length p.roles) whole ≡ groups ++ s
  unfolding whole head roles line_of_pred
  groups-at =
      let long : length (head ++ roles) ≡ roles_start + role_width * length p.roles = omega (arith, length-append head roles, roles-long p.roles) in
      ap (drop (roles_start + role_width * length p.roles)) (sym (append_assoc head roles (groups ++ s)))
      ∙ drop_at (head ++ roles) (groups ++ s) (roles_start + role_width * length p.roles) long

  pred-end : drop (pred_length whole) whole ≡ s
  unfolding whole head roles groups line_of_pred
  pred-end =
      let n : ℕ = roles_start + role_width * length p.roles + 2 * length p.groups in
      let long : length (head ++ (roles ++ groups)) ≡ n =
      omega (arith, length-append roles groups, roles-long p.roles, groups-long p.groups) in
      ap (λ (x : List ℕ). drop n (head ++ x)) (sym (append_assoc roles groups s)) ∙ drop_at (head ++ (roles ++ groups)) s n long

  pred-back : pred_of whole ≡ p
  unfolding whole head roles groups line_of_pred
  pred-back =
      ap₂ (λ (rs : List Role) (gs : List Frequency). record { min = p.min; max = p.max; roles = rs; groups = gs })
      (roles-back p.roles (groups ++ s))
      (ap (groups_in (length p.groups)) groups-at ∙ groups-back p.groups s)

  pred-long : length (values (lines_of_pred 2 p)) ≡ pred_length whole
  unfolding whole head roles groups lines_of_pred flat_map values line_of_pred
  pred-long =
      omega (
        arith,
        ap length (values_append (map (line_of_role 2) p.roles) (map line_of_group p.groups)),
        length-append roles groups,
        roles-long p.roles,
        groups-long p.groups,
      )

preds-back : (ps : List Predicate) (s : List ℕ) → preds_in (length ps) (values (flat_map (lines_of_pred 2) ps) ++ s) ≡ ps
unfolding preds_in flat_map
preds-back [] s = refl
preds-back (p ∷ ps) s =
    let rest : List ℕ = values (flat_map (lines_of_pred 2) ps) ++ s in
    let e : values (lines_of_pred 2 p ++ flat_map (lines_of_pred 2) ps) ++ s ≡ whole p rest =
    ap (λ (x : List ℕ). x ++ s) (values_append (lines_of_pred 2 p) (flat_map (lines_of_pred 2) ps))
    ∙ append_assoc (values (lines_of_pred 2 p)) (values (flat_map (lines_of_pred 2) ps)) s ∙ pred-whole p rest in
    ap (λ (x : List ℕ). pred_of x ∷ preds_in (length ps) (drop (pred_length x) x)) e
    ∙ ap₂ {C = List Predicate} (λ x xs. x ∷ xs) (pred-back p rest) (ap (preds_in (length ps)) (pred-end p rest) ∙ preds-back ps s)

preds-long : (ps : List Predicate) (s : List ℕ)
    → preds_length (length ps) (values (flat_map (lines_of_pred 2) ps) ++ s) ≡ length (values (flat_map (lines_of_pred 2) ps))
unfolding preds_length flat_map values
preds-long [] s = refl
preds-long (p ∷ ps) s =
    let rest : List ℕ = values (flat_map (lines_of_pred 2) ps) ++ s in
    let e : values (lines_of_pred 2 p ++ flat_map (lines_of_pred 2) ps) ++ s ≡ whole p rest =
    ap (λ (x : List ℕ). x ++ s) (values_append (lines_of_pred 2 p) (flat_map (lines_of_pred 2) ps))
    ∙ append_assoc (values (lines_of_pred 2 p)) (values (flat_map (lines_of_pred 2) ps)) s ∙ pred-whole p rest in
    let here : preds_length (suc (length ps)) (whole p rest) ≡ pred_length (whole p rest) + length (values (flat_map (lines_of_pred 2) ps)) =
    ap (λ (x : List ℕ). pred_length (whole p rest) + preds_length (length ps) x) (pred-end p rest)
    ∙ ap (λ (n : ℕ). pred_length (whole p rest) + n) (preds-long ps s) in
    let long : length (values (lines_of_pred 2 p ++ flat_map (lines_of_pred 2) ps))
    ≡ length (values (lines_of_pred 2 p)) + length (values (flat_map (lines_of_pred 2) ps)) =
    ap length (values_append (lines_of_pred 2 p) (flat_map (lines_of_pred 2) ps))
    ∙ length-append (values (lines_of_pred 2 p)) (values (flat_map (lines_of_pred 2) ps)) in
    ap (preds_length (suc (length ps))) e ∙ here
    ∙ sym (long ∙ ap (λ (n : ℕ). n + length (values (flat_map (lines_of_pred 2) ps))) (pred-long p rest))

module _ (d : Diagram) where
  types : List ℕ
  types = values (map line_of_type d.types)

  from-preds : List ℕ
  from-preds = length d.preds ∷ (values (flat_map (lines_of_pred 2) d.preds) ++ (length (all_roles d) ∷ []))

  preds-at : drop (2 + 6 * length d.types) (d.kind ∷ length d.types ∷ (types ++ from-preds)) ≡ from-preds
  unfolding types
  preds-at =
      let long : length (d.kind ∷ length d.types ∷ types) ≡ 2 + 6 * length d.types = omega (arith, types_long d.types) in
      drop_at (d.kind ∷ length d.types ∷ types) from-preds (2 + 6 * length d.types) long

  preds-after : drop (3 + 6 * length d.types) (d.kind ∷ length d.types ∷ (types ++ from-preds)) ≡ values (flat_map (lines_of_pred 2) d.preds) ++
      (length (all_roles d) ∷ [])
  unfolding from-preds
  preds-after =
      let e : 3 + 6 * length d.types ≡ 2 + 6 * length d.types + 1 = omega arith in
      rw e (sym (drop-drop 1 (2 + 6 * length d.types) (d.kind ∷ length d.types ∷ (types ++ from-preds))) ∙ ap (drop 1) preds-at)

  module _ (w : WellFormed d) where
    wide-whole : wide_table d ≡ d.kind ∷ length d.types ∷ (types ++ from-preds)
    unfolding table lines line_of_count types from-preds values flat_map all_roles
    wide-whole =
        let first : List Line = map line_of_type d.types in
        let preds : List Line = flat_map (lines_of_pred 2) d.preds in
        let last : List Line = line_of_count end_line (length (all_roles d)) ∷ [] in
        wide_as_limited d w
        ∙ ap (λ (x : List ℕ). d.kind ∷ length d.types ∷ x)
        (ap values (append_assoc first (line_of_count preds_line (length d.preds) ∷ preds) last)
        ∙ values_append first (line_of_count preds_line (length d.preds) ∷ (preds ++ last))
        ∙ ap (λ (x : List ℕ). types ++ (length d.preds ∷ x)) (values_append preds last))

    pub wide_back : diagram_of (wide_table d) ≡ d
    unfolding diagram_of types from-preds
    wide_back =
        rw wide-whole
        (ap₂ (λ (ts : List ObjectType) (ps : List Predicate). record { kind = d.kind; types = ts; preds = ps })
        (types-back d.types from-preds)
        (ap₂ (λ (s r : List ℕ). preds_in (get_or s 0 0) r) preds-at preds-after ∙ preds-back d.preds (length (all_roles d) ∷ [])))

    -- Every line that the table tells of stands in it
    pub wide-inside : first_pred_at (wide_table d) + preds_length (pred_count (wide_table d)) (drop (first_pred_at (wide_table d)) (wide_table d)) ≤ length (wide_table d)
    unfolding types from-preds
    wide-inside =
        let last : List ℕ = length (all_roles d) ∷ [] in
        let preds : List ℕ = values (flat_map (lines_of_pred 2) d.preds) in
        let t : List ℕ = d.kind ∷ length d.types ∷ (types ++ from-preds) in
        let long : preds_length (get_or (drop (2 + 6 * length d.types) t) 0 0) (drop (3 + 6 * length d.types) t) ≡ length preds =
        ap₂ (λ (s r : List ℕ). preds_length (get_or s 0 0) r) preds-at preds-after ∙ preds-long d.preds last in
        rw wide-whole (omega (arith, long, length-append types from-preds, types_long d.types, length-append preds last))
