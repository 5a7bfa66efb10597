-- How many numbers the table of a diagram has, in the file and with role lines of one width, and how many of a well-formed one.
use Rattle.std.specs.Prelude.{ℕ, ◌+◌, ◌*◌, ◌≤◌, ◌≡◌, Bool}
use Rattle.std.proofs.Math.Nat.{mul-suc, mul-add}
use native.Mathlib.Omega.{arith}
use Rattle.std.proofs.Math.Path.{refl, ap}
use Rattle.std.proofs.Common.{◌∙◌}
use Rattle.std.proofs.Math.Bool.{true, false}
use mathlib.Core.List.{List, [], ◌∷◌, ◌++◌, map, flat_map}
use Rattle.std.proofs.Math.ListN.{length, length-append}
use Rattle.counting.proofs.Laws.Maps.{flat_map_append}
use Rattle.orm.specs.Diagram.{ObjectType, Role, Frequency, Predicate, Diagram, Line, line_of_type, line_of_role, line_of_group, line_of_pred}
use Rattle.orm.specs.Diagram.{lines_of_pred, line_of_count, diagram_line, types_line, preds_line, end_line, role_line, limited_role_line, limits_roles, role_line_of}
use Rattle.orm.specs.Diagram.{all_roles, all_groups, lines, table}
use Rattle.orm.specs.Form.{ranges, fields, role_fields, limited_role_fields}
use Rattle.orm.specs.WellFormed.{WellFormed}
use Rattle.reading.specs.Spelling.{role_line_by, role_values_by, role-spelling}
use Rattle.reading.specs.WideTable.{role_width, added, wide_line, wide_table, most_numbers}

-- The widths of a role line are those of its ranges, and of what is added to it
pub role-fields : fields role_line ≡ role_fields
unfolding fields ranges
role-fields = refl

pub limited-fields : fields limited_role_line ≡ limited_role_fields
unfolding fields ranges
limited-fields = refl

wide-role : (kind : ℕ) (r : Role) → length (wide_line (line_of_role kind r)) ≡ role_width
unfolding line_of_role role_line_of added
wide-role kind r = go (limits_roles kind)
  where
    go : (b : Bool) → length (role_values_by b r ++ added (role_line_by b)) ≡ role_width
    go true = unfold added in refl
    go false = unfold added in refl

-- `f` gives the numbers of a line, `w` of them where it is a role line in a diagram of this kind
module _ (f : Line → List ℕ) (kind w : ℕ) where
  record Widths : Type 0 where
    start : length (f (line_of_count diagram_line kind)) ≡ 1
    types : (n : ℕ) → length (f (line_of_count types_line n)) ≡ 1
    preds : (n : ℕ) → length (f (line_of_count preds_line n)) ≡ 1
    end : (n : ℕ) → length (f (line_of_count end_line n)) ≡ 1
    type : (t : ObjectType) → length (f (line_of_type t)) ≡ 6
    pred : (p : Predicate) → length (f (line_of_pred p)) ≡ 4
    role : (r : Role) → length (f (line_of_role kind r)) ≡ w
    group : (g : Frequency) → length (f (line_of_group g)) ≡ 2

  abbrev size : List Line → ℕ
  size ls = length (flat_map f ls)

  size_none : size [] ≡ 0
  unfolding flat_map
  size_none = refl

  size_append : (ls ks : List Line) → size (ls ++ ks) ≡ size ls + size ks
  size_append ls ks = ap length (flat_map_append f ls ks) ∙ length-append (flat_map f ls) (flat_map f ks)

  size-cons : (l : Line) (ls : List Line) → size (l ∷ ls) ≡ length (f l) + size ls
  unfolding flat_map
  size-cons l ls = length-append (f l) (flat_map f ls)

  size-each : {A : Type 0} (line_of : A → Line) (k : ℕ) → ((a : A) → length (f (line_of a)) ≡ k) → (xs : List A) → size (map line_of xs) ≡ k * length xs
  unfolding flat_map
  size-each line_of k h [] = omega arith
  size-each line_of k h (a ∷ xs) = omega (arith, size-cons (line_of a) (map line_of xs), h a, size-each line_of k h xs, mul-suc k (length xs))

  module _ (h : Widths) where
    size-pred : (p : Predicate) → size (lines_of_pred kind p) ≡ 4 + w * length p.roles + 2 * length p.groups
    unfolding lines_of_pred
    size-pred p =
        omega (
          arith,
          size_append (line_of_pred p ∷ map (line_of_role kind) p.roles) (map line_of_group p.groups),
          size-cons (line_of_pred p) (map (line_of_role kind) p.roles),
          h.pred p,
          size-each (line_of_role kind) w h.role p.roles,
          size-each line_of_group 2 h.group p.groups,
        )

    size-preds : (ps : List Predicate)
        → size (flat_map (lines_of_pred kind) ps)
        ≡ 4 * length ps + w * length (flat_map (λ (p : Predicate). p.roles) ps) + 2 * length (flat_map (λ (p : Predicate). p.groups) ps)
    unfolding flat_map
    size-preds [] = omega arith
    size-preds (p ∷ ps) =
        let roles : List Role = flat_map (λ (q : Predicate). q.roles) ps in
        omega (
          arith,
          size_append (lines_of_pred kind p) (flat_map (lines_of_pred kind) ps),
          size-pred p,
          size-preds ps,
          ap (λ (n : ℕ). w * n) (length-append p.roles roles) ∙ mul-add w (length p.roles) (length roles),
          length-append p.groups (flat_map (λ (q : Predicate). q.groups) ps),
        )

    lines-size : (d : Diagram) → d.kind ≡ kind
        → size (lines d) ≡ 4 + 6 * length d.types + 4 * length d.preds + w * length (all_roles d) + 2 * length (all_groups d)
    unfolding lines all_roles all_groups
    lines-size d same =
        let start : Line = line_of_count diagram_line kind in
        let types : Line = line_of_count types_line (length d.types) in
        let preds : Line = line_of_count preds_line (length d.preds) in
        let end : Line = line_of_count end_line (length (all_roles d)) in
        let front : List Line = start ∷ types ∷ map line_of_type d.types in
        let middle : List Line = preds ∷ flat_map (lines_of_pred kind) d.preds in
        let whole : size (lines d) ≡ size (front ++ middle ++ end ∷ []) = rw same refl in
        omega (
          arith,
          whole,
          size_append (front ++ middle) (end ∷ []),
          size_append front middle,
          size-cons start (types ∷ map line_of_type d.types),
          size-cons types (map line_of_type d.types),
          size-each line_of_type 6 h.type d.types,
          size-cons preds (flat_map (lines_of_pred kind) d.preds),
          size-preds d.preds,
          size-cons end [],
          size_none,
          h.start,
          h.types (length d.types),
          h.preds (length d.preds),
          h.end (length (all_roles d)),
        )

module _ (d : Diagram) where
  pub table-length : length (table d)
      ≡ 4 + 6 * length d.types + 4 * length d.preds + fields (role_line_of d.kind) * length (all_roles d) + 2 * length (all_groups d)
  unfolding table line_of_count line_of_type line_of_pred line_of_group
  table-length =
      lines-size (λ (l : Line). l.values) d.kind (fields (role_line_of d.kind))
      (record {
        start = refl;
        types = λ n. refl;
        preds = λ n. refl;
        end = λ n. refl;
        type = λ t. refl;
        pred = λ p. refl;
        role = (role-spelling d.kind).counted;
        group = λ g. refl;
      })
      d refl

  pub wide-length : length (wide_table d) ≡ 4 + 6 * length d.types + 4 * length d.preds + role_width * length (all_roles d) + 2 * length (all_groups d)
  unfolding wide_table added line_of_count line_of_type line_of_pred line_of_group
  wide-length =
      lines-size wide_line d.kind role_width
      (record {
        start = refl;
        types = λ n. refl;
        preds = λ n. refl;
        end = λ n. refl;
        type = λ t. refl;
        pred = λ p. refl;
        role = wide-role d.kind;
        group = λ g. refl;
      })
      d refl

  -- no table is longer than with role lines of one width
  table-below-wide : length (table d) ≤ length (wide_table d)
  unfolding role_line_of
  table-below-wide = go (limits_roles d.kind) table-length
    where
      go : (b : Bool)
          → length (table d) ≡ 4 + 6 * length d.types + 4 * length d.preds + fields (role_line_by b) * length (all_roles d) + 2 * length (all_groups d)
          → length (table d) ≤ length (wide_table d)
      go true e = unfold fields ranges in omega (arith, wide-length)
      go false e = unfold fields ranges in omega (arith, wide-length)

  module _ (w : WellFormed d) where
    pub wide_short : length (wide_table d) ≤ most_numbers
    wide_short = omega (arith, wide-length, w.type_count.1, w.pred_count.1, w.role_count, w.group_count)

    -- LEGSHORGAN_MOST_TABLE
    pub table-short : length (table d) ≤ most_numbers
    table-short = omega (arith, table-below-wide, wide_short)
