-- The reading of a diagram as one walk over its lines, with the numbers read so far at hand.
use Rattle.std.specs.Prelude.{ℕ, zero, suc, ◌+◌, ◌-◌, List, [], ◌∷◌, ◌++◌, length, get_or, drop}
use Rattle.std.proofs.Math.Option.{none, some}
use Rattle.counting.specs.Lists.{each}
use Rattle.orm.specs.Diagram.{ObjectType, Role, Diagram, Totals, totals, table, LineKind, diagram_line, types_line, type_line, preds_line, pred_line, freq_line, end_line, role_line_of}
use Rattle.orm.specs.Reader.{rejected, read, Reader, Cut, broken, cut}
use Rattle.orm.specs.Form.{Test, ◌unless◌, first_of, ranges, fields, in_ranges, count_of, type_of, role_of, group_of, head_of, type_tests, pred_tests, role_tests, group_tests, end_tests}

-- What is told of a diagram: its table, and how many types, predicates, roles and groups it has
pub record Summary : Type 0 where
  pub numbers : List ℕ
  pub totals : Totals

unfoldable pub summary : Diagram → Summary
summary d = record { numbers = table d; totals = totals d }

-- The `n` types whose numbers stand here
abbrev pub types_in : ℕ → List ℕ → List ObjectType
types_in n s = each type_of 6 n s

-- The tests of the type with this number against those before it, which stand behind the first two numbers of a table
unfoldable pub type_tests_at : ℕ → List ℕ → List ℕ → List Test
type_tests_at own acc v = type_tests own (types_in (own - 1) (drop 2 acc)) (type_of v)

-- The `n` roles of a diagram of this kind whose numbers stand here
abbrev pub roles_at : ℕ → ℕ → List ℕ → List Role
roles_at kind n s = each (role_of kind) (fields (role_line_of kind)) n s

-- With so many more roles and groups
abbrev pub plus : Totals → ℕ → ℕ → Totals
plus t roles groups = record { types = t.types; preds = t.preds; roles = t.roles + roles; groups = t.groups + groups }

-- Before any predicate
abbrev pub no_roles : ℕ → ℕ → Totals
no_roles types preds = record { types = types; preds = preds; roles = 0; groups = 0 }

-- From the numbers read so far on
abbrev pub Walk : Type 0
Walk = List ℕ → Reader Summary

-- `next` cuts off the next line
module _ (next : LineKind → List ℕ → Cut) where
  -- A line of this kind; what follows depends on its numbers, which stand at the end from then on
  unfoldable pub line_then : LineKind → (List ℕ → List Test) → (List ℕ → Walk) → Walk
  line_then k tests then acc n s =
      elim (next k s) [
        | broken ↦ rejected 1 n
        | cut v rest ↦
            elim (first_of (2 unless in_ranges (ranges k) v ∷ tests v)) [
              | some c ↦ rejected c n
              | none ↦ then v (acc ++ v) (suc n) rest
            ]
      ]

  -- So many lines of one kind, numbered from `own`
  unfoldable pub lines_then : LineKind → (ℕ → List ℕ → List ℕ → List Test) → ℕ → ℕ → Walk → Walk
  lines_then k tests own zero then acc = then acc
  lines_then k tests own (suc left) then acc = line_then k (tests own acc) (λ v acc'. lines_then k tests (suc own) left then acc') acc

  unfoldable pub nothing_left : Totals → Walk
  nothing_left t acc n [] = read (record { numbers = acc; totals = t }) n []
  nothing_left t acc n (x ∷ xs) = rejected 1 n

  unfoldable pub from_end : Totals → Walk
  from_end t acc = line_then end_line (λ v. end_tests t.roles (count_of v)) (λ v acc'. nothing_left t acc') acc

  -- In a diagram of this kind
  module _ (kind : ℕ) where
    -- The groups of a predicate with so many roles, whose numbers start at `first`
    unfoldable pub groups_then : ℕ → ℕ → ℕ → ℕ → Walk → Walk
    groups_then first roles own left then =
        lines_then freq_line (λ g acc v. group_tests (roles_at kind roles (drop first acc)) g (group_of v)) own left then

    -- The roles of a predicate, under so many types, and its groups
    unfoldable pub roles_then : ℕ → ℕ → ℕ → ℕ → ℕ → ℕ → Walk → Walk
    roles_then types first roles groups own left then =
        lines_then (role_line_of kind) (λ i acc v. role_tests types groups (role_of kind v)) own left (groups_then first roles 1 groups then)

    -- So many predicates, after those that the totals count
    unfoldable pub from_preds : Totals → ℕ → Walk
    from_preds t zero acc = from_end t acc
    from_preds t (suc left) acc =
        line_then pred_line (λ v. pred_tests t.roles t.groups (head_of v))
        (λ v acc'. roles_then t.types (length acc + length v) (get_or v 2 0) (get_or v 3 0) 1 (get_or v 2 0)
        (from_preds (plus t (get_or v 2 0) (get_or v 3 0)) left) acc') acc

    unfoldable pub from_preds_line : ℕ → Walk
    from_preds_line types acc = line_then preds_line (λ v. []) (λ v acc'. from_preds (no_roles types (get_or v 0 0)) (get_or v 0 0) acc') acc

    unfoldable pub from_types : ℕ → ℕ → ℕ → Walk
    from_types types own left = lines_then type_line type_tests_at own left (from_preds_line types)

    unfoldable pub from_types_line : Walk
    from_types_line acc = line_then types_line (λ v. []) (λ v acc'. from_types (get_or v 0 0) 1 (get_or v 0 0) acc') acc

  unfoldable pub from_start : Walk
  from_start acc = line_then diagram_line (λ v. []) (λ v acc'. from_types_line (get_or v 0 0) acc') acc
