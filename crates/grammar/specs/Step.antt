-- The tests of the line at a place, and where it leads.
use Rattle.std.specs.Prelude.{ℕ, ◌+◌, Bool, Result, Ok, Err, List, [], ◌∷◌, leb, ltb, length, get_or, drop}
use Rattle.std.proofs.Math.Option.{Option, none, some}
use Rattle.orm.specs.Diagram.{ObjectType, Frequency, LineKind, type_line, pred_line}
use Rattle.orm.specs.Form.{Test, ◌unless◌, first_of, ranges, in_ranges, count_of, type_of, role_of, group_of, head_of, pred_tests, role_tests, group_tests, end_tests}
use Rattle.reading.specs.Walk.{type_tests_at, roles_at}
use Rattle.grammar.specs.declared.Counts.{Counts}
use Rattle.grammar.specs.declared.Awaited.{Awaited}
use Rattle.grammar.specs.declared.Awaited.TheVariants.{AtDiagram, AtTypes, AtType, AtPreds, AtPred, AtRole, AtFreq, AtEnd, Over}
use Rattle.grammar.specs.declared.Fault.{Fault}
use Rattle.grammar.specs.Fault.{number_of}
use Rattle.grammar.specs.Awaited.{counts_of, block_of, types_from, preds_from, groups_from, roles_from, kind_at}

-- The first fault of a line of this kind with the numbers `v`: 2 for its ranges, then its other tests
abbrev pub fault_in : LineKind → List ℕ → List Test → Option ℕ
fault_in k v tests = first_of (2 unless in_ranges (ranges k) v ∷ tests)

-- The tests of a `type` line, where it is known whether its FIRST and LAST may stand there
abbrev pub type_tests_if : Bool → ℕ → ObjectType → List Test
type_tests_if ordered own t = 3 unless ltb t.super own ∷ 4 unless leb t.min t.max ∷ 4 unless ordered ∷ []

-- The tests of a `freq` line, where it is known whether a role names the group
abbrev pub freq_tests : Bool → Frequency → List Test
freq_tests used f = 4 unless leb f.fmin f.fmax ∷ 5 unless used ∷ []

-- The tests of a line with the numbers `v`, after lines with the numbers `s`: those that follow its ranges
abbrev pub tests_at : Awaited → List ℕ → List ℕ → List Test
tests_at AtDiagram s v = []
tests_at (AtTypes kind) s v = []
tests_at (AtType kind types own left) s v = type_tests_at own s v
tests_at (AtPreds kind types) s v = []
tests_at (AtPred c) s v = pred_tests c.roles c.groups (head_of v)
tests_at (AtRole b left) s v = role_tests b.counts.types b.groups (role_of b.counts.kind v)
tests_at (AtFreq b own left) s v = group_tests (roles_at b.counts.kind b.roles (drop b.first s)) own (group_of v)
tests_at (AtEnd c) s v = end_tests c.roles (count_of v)
tests_at (Over c) s v = []

abbrev pub next_at : Awaited → List ℕ → List ℕ → Awaited
next_at AtDiagram s v = AtTypes (get_or v 0 0)
next_at (AtTypes kind) s v = types_from kind (get_or v 0 0) 1 (get_or v 0 0)
next_at (AtType kind types own left) s v = types_from kind types (own + 1) left
next_at (AtPreds kind types) s v = preds_from (counts_of kind types (get_or v 0 0))
next_at (AtPred c) s v = roles_from (block_of c (length s + length v) v) (get_or v 2 0)
next_at (AtRole b left) s v = roles_from b left
next_at (AtFreq b own left) s v = groups_from b (own + 1) left
next_at (AtEnd c) s v = Over c
next_at (Over c) s v = Over c

-- What a line leads to: a refusal with this number, or the next place
pub data Consequence : Type 0 where
  refusing : ℕ → Consequence
  going : Awaited → Consequence

abbrev pub step_of : Result Awaited Fault → Consequence
step_of (Err f) = refusing (number_of f)
step_of (Ok p) = going p

abbrev pub stepped : Option ℕ → Awaited → Consequence
stepped none p = going p
stepped (some c) p = refusing c

-- Of the line with the numbers `v`, after lines with the numbers `s`
unfoldable pub step_at : Awaited → List ℕ → List ℕ → Consequence
step_at p s v = stepped (fault_in (kind_at p) v (tests_at p s v)) (next_at p s v)

-- Of the `type` line with the numbers `v`, where it is known whether its FIRST and LAST may stand there
abbrev pub type_step : ℕ → ℕ → ℕ → ℕ → Bool → List ℕ → Consequence
type_step kind types own left ordered v = stepped (fault_in type_line v (type_tests_if ordered own (type_of v))) (types_from kind types (own + 1) left)

-- Of the `pred` line with the numbers `v`, after `read` numbers
abbrev pub pred_step : Counts → ℕ → List ℕ → Consequence
pred_step c read v =
    stepped (fault_in pred_line v (pred_tests c.roles c.groups (head_of v)))
    (roles_from (block_of c (read + length v) v) (get_or v 2 0))
