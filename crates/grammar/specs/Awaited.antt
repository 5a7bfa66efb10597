-- The order of the lines, as places between them: which line comes next, and the place with so many of its kind left.
use Rattle.std.specs.Prelude.{ℕ, zero, suc, ◌+◌, Bool, true, false, List, get_or}
use Rattle.orm.specs.Diagram.{Totals, LineKind, diagram_line, types_line, type_line, preds_line, pred_line, freq_line, end_line, limits_roles, role_line_of}
use Rattle.orm.specs.Form.{role_fields, limited_role_fields}
use Rattle.grammar.specs.declared.Counts.{Counts}
use Rattle.grammar.specs.declared.Block.{Block}
use Rattle.grammar.specs.declared.Awaited.{Awaited}
use Rattle.grammar.specs.declared.Awaited.TheVariants.{AtDiagram, AtTypes, AtType, AtPreds, AtPred, AtRole, AtFreq, AtEnd, Over}

-- ---- what is known

-- Before any predicate
abbrev pub counts_of : ℕ → ℕ → ℕ → Counts
counts_of kind types preds = record { kind = kind; types = types; preds = preds; left = preds; roles = 0; groups = 0 }

abbrev pub with_left : Counts → ℕ → Counts
with_left c left = record { kind = c.kind; types = c.types; preds = c.preds; left = left; roles = c.roles; groups = c.groups }

abbrev pub totals_of : Counts → Totals
totals_of c = record { types = c.types; preds = c.preds; roles = c.roles; groups = c.groups }

-- The predicate of a `pred` line with the numbers `v`, whose roles' numbers start at `first`
abbrev pub block_of : Counts → ℕ → List ℕ → Block
block_of c first v = record {
  counts = record { kind = c.kind; types = c.types; preds = c.preds; left = c.left; roles = c.roles + get_or v 2 0; groups = c.groups + get_or v 3 0 };
  first = first;
  roles = get_or v 2 0;
  groups = get_or v 3 0;
}

-- ---- the place with so many lines of a kind left

abbrev pub types_from : ℕ → ℕ → ℕ → ℕ → Awaited
types_from kind types own zero = AtPreds kind types
types_from kind types own (suc left) = AtType kind types own left

abbrev pub preds_left : Counts → ℕ → Awaited
preds_left c zero = AtEnd c
preds_left c (suc left) = AtPred (with_left c left)

abbrev pub preds_from : Counts → Awaited
preds_from c = preds_left c c.left

abbrev pub groups_from : Block → ℕ → ℕ → Awaited
groups_from b own zero = preds_from b.counts
groups_from b own (suc left) = AtFreq b own left

abbrev pub roles_from : Block → ℕ → Awaited
roles_from b zero = groups_from b 1 b.groups
roles_from b (suc left) = AtRole b left

-- ---- a place

-- The number of values on a role line in a diagram of this kind
abbrev pub role_fields_of : ℕ → ℕ
role_fields_of kind = elim (limits_roles kind) [ true ↦ limited_role_fields | false ↦ role_fields ]

abbrev pub kind_at : Awaited → LineKind
kind_at AtDiagram = diagram_line
kind_at (AtTypes kind) = types_line
kind_at (AtType kind types own left) = type_line
kind_at (AtPreds kind types) = preds_line
kind_at (AtPred c) = pred_line
kind_at (AtRole b left) = role_line_of b.counts.kind
kind_at (AtFreq b own left) = freq_line
kind_at (AtEnd c) = end_line
kind_at (Over c) = end_line

-- The number of values on the line
abbrev pub fields_at : Awaited → ℕ
fields_at AtDiagram = 1
fields_at (AtTypes kind) = 1
fields_at (AtType kind types own left) = 6
fields_at (AtPreds kind types) = 1
fields_at (AtPred c) = 4
fields_at (AtRole b left) = role_fields_of b.counts.kind
fields_at (AtFreq b own left) = 2
fields_at (AtEnd c) = 1
fields_at (Over c) = 1

abbrev pub is_going : Awaited → Bool
is_going AtDiagram = true
is_going (AtTypes kind) = true
is_going (AtType kind types own left) = true
is_going (AtPreds kind types) = true
is_going (AtPred c) = true
is_going (AtRole b left) = true
is_going (AtFreq b own left) = true
is_going (AtEnd c) = true
is_going (Over c) = false

-- The counts at the end; before it none
abbrev pub counts_at : Awaited → Counts
counts_at AtDiagram = counts_of 0 0 0
counts_at (AtTypes kind) = counts_of 0 0 0
counts_at (AtType kind types own left) = counts_of 0 0 0
counts_at (AtPreds kind types) = counts_of 0 0 0
counts_at (AtPred c) = counts_of 0 0 0
counts_at (AtRole b left) = counts_of 0 0 0
counts_at (AtFreq b own left) = counts_of 0 0 0
counts_at (AtEnd c) = counts_of 0 0 0
counts_at (Over c) = c
