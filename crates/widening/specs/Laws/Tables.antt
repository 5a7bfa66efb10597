-- Of the table of a diagram the positions give the table with role lines of one width.
use Prim.Native.Nat.{ℕ, zero, suc, ◌+◌, ◌*◌, ◌-◌, ◌<◌}
use native.Mathlib.Omega.{arith}
use Rattle.std.specs.Prelude.{◌≡◌, Bool, get_or}
use Rattle.std.proofs.Math.Path.{refl, sym, ap, ap₂}
use Rattle.std.proofs.Common.{◌∙◌}
use Rattle.std.proofs.Math.Bool.{true, false}
use mathlib.Core.List.{List, [], ◌∷◌, ◌++◌, map, flat_map, append_assoc}
use Rattle.std.proofs.Math.ListN.{length, take, drop, length-append}
use borrow.Author.Tests.{eqb-true, eqb-false}
use Rattle.std.proofs.Math.Seq.{append_snoc, take_at, drop_at}
use Rattle.counting.specs.Lists.{each}
use Rattle.counting.proofs.Laws.Maps.{flat_map_append}
use Rattle.orm.specs.Diagram.{ObjectType, Role, Frequency, Predicate, Diagram, Line, line_of_type, line_of_role, line_of_group, line_of_pred}
use Rattle.orm.specs.Diagram.{lines_of_pred, line_of_count, diagram_line, types_line, preds_line, end_line, limits_roles, role_line_of, all_roles, lines, table}
use Rattle.orm.specs.WellFormed.{WellFormed}
use Rattle.orm.specs.Form.{role_fields}
use Rattle.reading.specs.WideTable.{added, wide_line, wide_table}
use Rattle.reading.specs.WideLines.{limited-table}
use Rattle.reading.proofs.TableLength.{table-length}
use Rattle.widening.specs.Widened.{roles_widened, groups_behind, pred_fields, pred_widened, preds_fields, preds_widened, plain_fields, plain_widened, table_widened, Inside}

-- The numbers of some lines, in a file and with role lines of one width
abbrev narrow : List Line → List ℕ
narrow ls = flat_map (λ (l : Line). l.values) ls

abbrev wide : List Line → List ℕ
wide ls = flat_map wide_line ls

-- ---- lines of one kind

types_same : (ts : List ObjectType) → narrow (map line_of_type ts) ≡ wide (map line_of_type ts)
unfolding flat_map line_of_type added
types_same [] = refl
types_same (t ∷ ts) = ap (λ (x : List ℕ). t.min ∷ t.max ∷ t.first ∷ t.last ∷ t.super ∷ t.indep ∷ x) (types_same ts)

types_long : (ts : List ObjectType) → length (narrow (map line_of_type ts)) ≡ 6 * length ts
unfolding flat_map line_of_type
types_long [] = refl
types_long (t ∷ ts) = omega (arith, types_long ts)

roles-wide : (rs : List Role) (s : List ℕ) → roles_widened (length rs) (narrow (map (line_of_role 1) rs) ++ s) ≡ wide (map (line_of_role 1) rs)
unfolding roles_widened each flat_map line_of_role role_line_of limits_roles added
roles-wide [] s = refl
roles-wide (r ∷ rs) s = ap (λ (x : List ℕ). r.type ∷ r.mand ∷ r.group ∷ 1 ∷ 4096 ∷ x) (roles-wide rs s)

roles-long : (rs : List Role) → length (narrow (map (line_of_role 1) rs)) ≡ role_fields * length rs
unfolding flat_map line_of_role limits_roles
roles-long [] = refl
roles-long (r ∷ rs) = omega (arith, roles-long rs)

groups-same : (gs : List Frequency) → narrow (map line_of_group gs) ≡ wide (map line_of_group gs)
unfolding flat_map line_of_group added
groups-same [] = refl
groups-same (g ∷ gs) = ap (λ (x : List ℕ). g.fmin ∷ g.fmax ∷ x) (groups-same gs)

groups-long : (gs : List Frequency) → length (narrow (map line_of_group gs)) ≡ 2 * length gs
unfolding flat_map line_of_group
groups-long [] = refl
groups-long (g ∷ gs) = omega (arith, groups-long gs)

-- ---- a predicate, and what follows it

module _ (p : Predicate) (s : List ℕ) where
  head : List ℕ
  head = (line_of_pred p).values

  roles : List ℕ
  roles = narrow (map (line_of_role 1) p.roles)

  groups : List ℕ
  groups = narrow (map line_of_group p.groups)

  whole : List ℕ
  whole = head ++ (roles ++ (groups ++ s))

  pred-whole : narrow (lines_of_pred 1 p) ++ s ≡ whole
  unfolding whole head roles groups lines_of_pred flat_map line_of_pred
  pred-whole =
      ap (λ (x : List ℕ). head ++ x)
      (ap (λ (x : List ℕ). x ++ s) (flat_map_append (λ (l : Line). l.values) (map (line_of_role 1) p.roles) (map line_of_group p.groups))
      ∙ append_assoc roles groups s)

  groups-at : drop (groups_behind whole) whole ≡ groups ++ s
  unfolding whole head roles line_of_pred
  groups-at =
      let n : ℕ = 4 + role_fields * length p.roles in
      let long : length (head ++ roles) ≡ n = omega (arith, length-append head roles, roles-long p.roles) in
      ap (drop n) (sym (append_assoc head roles (groups ++ s))) ∙ drop_at (head ++ roles) (groups ++ s) n long

  pred-end : drop (pred_fields whole) whole ≡ s
  unfolding whole head roles groups line_of_pred
  pred-end =
      let n : ℕ = 4 + role_fields * length p.roles + 2 * length p.groups in
      let long : length (head ++ (roles ++ groups)) ≡ n =
      omega (arith, length-append roles groups, roles-long p.roles, groups-long p.groups) in
      ap (λ (x : List ℕ). drop n (head ++ x)) (sym (append_assoc roles groups s)) ∙ drop_at (head ++ (roles ++ groups)) s n long

  pred-long : length (narrow (lines_of_pred 1 p)) ≡ pred_fields whole
  unfolding whole head roles groups lines_of_pred flat_map line_of_pred
  pred-long =
      omega (
        arith,
        ap length (flat_map_append (λ (l : Line). l.values) (map (line_of_role 1) p.roles) (map line_of_group p.groups)),
        length-append roles groups,
        roles-long p.roles,
        groups-long p.groups,
      )

  pred-wide : pred_widened whole ≡ wide (lines_of_pred 1 p)
  unfolding pred_widened whole head roles groups lines_of_pred flat_map line_of_pred added
  pred-wide =
      let own : take (2 * length p.groups) (drop (groups_behind whole) whole) ≡ wide (map line_of_group p.groups) =
      ap (take (2 * length p.groups)) groups-at ∙ take_at groups s (2 * length p.groups) (groups-long p.groups)
      ∙ groups-same p.groups in
      ap₂ (λ (x y : List ℕ). head ++ x ++ y) (roles-wide p.roles (groups ++ s)) own
      ∙ ap (λ (x : List ℕ). head ++ x) (sym (flat_map_append wide_line (map (line_of_role 1) p.roles) (map line_of_group p.groups)))

-- the predicate and then those behind it
module _ (p : Predicate) (ps : List Predicate) (s : List ℕ) where
  rest : List ℕ
  rest = narrow (flat_map (lines_of_pred 1) ps) ++ s

  preds-whole : narrow (lines_of_pred 1 p ++ flat_map (lines_of_pred 1) ps) ++ s ≡ whole p rest
  unfolding rest
  preds-whole =
      ap (λ (x : List ℕ). x ++ s) (flat_map_append (λ (l : Line). l.values) (lines_of_pred 1 p) (flat_map (lines_of_pred 1) ps))
      ∙ append_assoc (narrow (lines_of_pred 1 p)) (narrow (flat_map (lines_of_pred 1) ps)) s
      ∙ pred-whole p rest

preds-wide : (ps : List Predicate) (s : List ℕ)
    → preds_widened (length ps) (narrow (flat_map (lines_of_pred 1) ps) ++ s) ≡ wide (flat_map (lines_of_pred 1) ps)
unfolding preds_widened flat_map rest
preds-wide [] s = refl
preds-wide (p ∷ ps) s =
    ap (preds_widened (suc (length ps))) (preds-whole p ps s)
    ∙ ap₂ ◌++◌ (pred-wide p (rest p ps s)) (ap (preds_widened (length ps)) (pred-end p (rest p ps s)) ∙ preds-wide ps s)
    ∙ sym (flat_map_append wide_line (lines_of_pred 1 p) (flat_map (lines_of_pred 1) ps))

preds-long : (ps : List Predicate) (s : List ℕ)
    → preds_fields (length ps) (narrow (flat_map (lines_of_pred 1) ps) ++ s) ≡ length (narrow (flat_map (lines_of_pred 1) ps))
unfolding preds_fields flat_map rest
preds-long [] s = refl
preds-long (p ∷ ps) s =
    ap (preds_fields (suc (length ps))) (preds-whole p ps s)
    ∙ ap₂ ◌+◌ (sym (pred-long p (rest p ps s))) (ap (preds_fields (length ps)) (pred-end p (rest p ps s)) ∙ preds-long ps s)
    ∙ sym (length-append (narrow (lines_of_pred 1 p)) (narrow (flat_map (lines_of_pred 1) ps)))
    ∙ ap length (sym (flat_map_append (λ (l : Line). l.values) (lines_of_pred 1 p) (flat_map (lines_of_pred 1) ps)))

-- ---- the table, in `diagram=1`

-- with the types and predicates of `d`
abbrev plain_of : Diagram → Diagram
plain_of d = record { kind = 1; types = d.types; preds = d.preds }

module _ (d : Diagram) where
  -- the lines before the predicates, those of the predicates, the last
  before : List Line
  before = line_of_count diagram_line 1 ∷ line_of_count types_line (length d.types) ∷ map line_of_type d.types
      ++ line_of_count preds_line (length d.preds) ∷ []

  pred_lines : List Line
  pred_lines = flat_map (lines_of_pred 1) d.preds

  last : List Line
  last = line_of_count end_line (length (all_roles d)) ∷ []

  lines_are : lines (plain_of d) ≡ before ++ pred_lines ++ last
  unfolding lines before pred_lines last all_roles
  lines_are =
      let front : List Line = line_of_count diagram_line 1 ∷ line_of_count types_line (length d.types) ∷ map line_of_type d.types in
      ap (λ (x : List Line). x ++ last) (sym (append_snoc front (line_of_count preds_line (length d.preds)) pred_lines))

  numbers-are : (f : Line → List ℕ) → flat_map f (lines (plain_of d)) ≡ flat_map f before ++ flat_map f pred_lines ++ flat_map f last
  numbers-are f =
      ap (flat_map f) lines_are ∙ flat_map_append f (before ++ pred_lines) last
      ∙ ap (λ (x : List ℕ). x ++ flat_map f last) (flat_map_append f before pred_lines)

  before_same : narrow before ≡ wide before
  unfolding before flat_map line_of_count added
  before_same =
      let types : List Line = map line_of_type d.types in
      let counted : List Line = line_of_count preds_line (length d.preds) ∷ [] in
      ap (λ (x : List ℕ). 1 ∷ length d.types ∷ x)
      (flat_map_append (λ (l : Line). l.values) types counted
      ∙ ap (λ (x : List ℕ). x ++ length d.preds ∷ []) (types_same d.types)
      ∙ sym (flat_map_append wide_line types counted))

  before-long : length (narrow before) ≡ 3 + 6 * length d.types
  unfolding before flat_map line_of_count
  before-long =
      let types : List Line = map line_of_type d.types in
      omega (
        arith,
        ap length (flat_map_append (λ (l : Line). l.values) types (line_of_count preds_line (length d.preds) ∷ [])),
        length-append (narrow types) (length d.preds ∷ []),
        types_long d.types,
      )

  n : ℕ
  n = 3 + 6 * length d.types

  flat : List ℕ
  flat = narrow before ++ narrow pred_lines ++ narrow last

  before_at : take n flat ≡ narrow before
  unfolding n flat
  before_at =
      ap (take n) (append_assoc (narrow before) (narrow pred_lines) (narrow last))
      ∙ take_at (narrow before) (narrow pred_lines ++ narrow last) n before-long

  preds-at : drop n flat ≡ narrow pred_lines ++ narrow last
  unfolding n flat
  preds-at =
      ap (drop n) (append_assoc (narrow before) (narrow pred_lines) (narrow last))
      ∙ drop_at (narrow before) (narrow pred_lines ++ narrow last) n before-long

  flat-long : length flat ≡ length (narrow before ++ narrow pred_lines) + 1
  unfolding flat last flat_map line_of_count
  flat-long = length-append (narrow before ++ narrow pred_lines) (narrow last)

  last-at : take 1 (drop (length flat - 1) flat) ≡ wide last
  unfolding flat last flat_map line_of_count added
  last-at =
      let long : length (narrow before ++ narrow pred_lines) ≡ length flat - 1 = omega (arith, flat-long) in
      ap (take 1) (drop_at (narrow before ++ narrow pred_lines) (narrow last) (length flat - 1) long)

  wide_is : plain_widened (length d.types) (length d.preds) (table (plain_of d)) ≡ wide_table (plain_of d)
  unfolding plain_widened table wide_table n flat pred_lines
  wide_is =
      ap (plain_widened (length d.types) (length d.preds)) (numbers-are (λ (l : Line). l.values))
      ∙ ap₂ ◌++◌
      (ap₂ ◌++◌ (before_at ∙ before_same) (ap (preds_widened (length d.preds)) preds-at ∙ preds-wide d.preds (narrow last)))
      last-at
      ∙ sym (numbers-are wide_line)

  fields-are : plain_fields (length d.types) (length d.preds) (table (plain_of d)) ≡ length (table (plain_of d))
  unfolding table n flat pred_lines
  fields-are =
      let is : table (plain_of d) ≡ flat = numbers-are (λ (l : Line). l.values) in
      let fields : preds_fields (length d.preds) (drop n flat) ≡ length (narrow pred_lines) =
      ap (preds_fields (length d.preds)) preds-at ∙ preds-long d.preds (narrow last) in
      rw is (omega (arith, fields, flat-long, length-append (narrow before) (narrow pred_lines), before-long))

-- ---- of either kind, with the numbers of its types and predicates

first_number : (d : Diagram) → get_or (table d) 0 0 ≡ d.kind
unfolding table lines line_of_count flat_map
first_number d = refl

some-numbers : (d : Diagram) → 0 < length (table d)
some-numbers d = omega (arith, table-length d)

module _ (d : Diagram) (w : WellFormed d) {t : List ℕ} {types preds : ℕ} (e : t ≡ table d) (et : length d.types ≡ types)
    (ep : length d.preds ≡ preds) where
  kind-is : get_or t 0 0 ≡ d.kind
  kind-is = ap (λ (s : List ℕ). get_or s 0 0) e ∙ first_number d

  plain : (get_or t 0 0 ≡ 2 → ⊥) → d.kind ≡ 1
  plain n = go d.kind refl
    where
      go : (k : ℕ) → d.kind ≡ k → d.kind ≡ 1
      go zero q = absurd (omega (arith, w.kinds.0))
      go (suc zero) q = q
      go (suc (suc zero)) q = absurd (n (kind-is ∙ q))
      go (suc (suc (suc k))) q = absurd (omega (arith, w.kinds.1))

  same : (get_or t 0 0 ≡ 2 → ⊥) → d ≡ plain_of d
  same n = ap (λ (k : ℕ). record { kind = k; types = d.types; preds = d.preds }) (plain n)

  plain-wide : (get_or t 0 0 ≡ 2 → ⊥) → plain_widened types preds t ≡ wide_table d
  plain-wide n = rw (e ∙ ap table (same n), ← et, ← ep, same n) (wide_is d)

  pub table-wide : table_widened types preds t ≡ wide_table d
  unfolding table_widened
  table-wide = go (limits_roles (get_or t 0 0)) refl
    where
      go : (b : Bool) → limits_roles (get_or t 0 0) ≡ b → elim b [ true ↦ t | false ↦ plain_widened types preds t ] ≡ wide_table d
      go true q = e ∙ sym (limited-table d w (sym kind-is ∙ (unfold limits_roles in eqb-true (get_or t 0 0) 2 q)))
      go false q = plain-wide (unfold limits_roles in eqb-false (get_or t 0 0) 2 q)

  pub table_inside : Inside types preds t
  table_inside = record {
    some = rw e (some-numbers d);
    plain = λ n. rw (e ∙ ap table (same n), ← et, ← ep) (omega (arith, fields-are d));
  }
