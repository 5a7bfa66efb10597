-- A call's outcome by what the table, the cells and the constraints come to.
use Prim.Native.Nat.{ℕ}
use mathlib.Core.Path.{◌≡◌, refl, sym, ap, ◌∙◌}
use mathlib.Core.List.{List}
use lib.ListN.{take}
use Rattle.orm.specs.Text.{table_line}
use Rattle.orm.specs.Constraints.{answer}
use Rattle.orm.specs.Outcome.{accepted, buffer_after}
use Rattle.orm.specs.Calls.{diagram_in, population_in, validate_call}
use Rattle.refusals.specs.declared.Refusal.{Refusal}
use Rattle.refusals.specs.declared.Refusal.TheVariants.{Cells}
use Rattle.widening.specs.Answer.{acceptance_of, described, widened, Accepted}
use Rattle.widening.specs.Laws.Accepts.{accepted-refused, accepted_as}
use Rattle.widening.specs.declared.Widened.{Widened}
use Rattle.table.specs.Positions.{diagram_of, Walkable}
use Rattle.table.specs.Valid.{Valid}
use Rattle.table.specs.Laws.Valid.{valid-walkable}
use Rattle.blocks.specs.Blocks.{extent_of, population_at}
use Rattle.std.specs.Prelude.{Option, Some, Result, Ok, Err}
use Rattle.blocks.specs.Starts.{Populated}
use Rattle.faults.specs.Faults.{answer_of}
use Rattle.playing.specs.Places.{population_of}
use Rattle.faults.specs.declared.Verdict.{Verdict}
use Rattle.validator.specs.Outcomes.{validate_of, validated}

-- ---- a valid table, and cells

module _ (t s : List ℕ) where
  pub cells-end : (e : Option ℕ) (at : ℕ) → population_in (diagram_of t) s ≡ extent_of (population_at (diagram_of t) s) e → e ≡ Some at
      → validate_of (Err (Cells at)) ≡ validated (diagram_of t) s
  cells-end e at p q = sym (rw (p, q))

module _ (t s : List ℕ) (j : Populated t s) where
  answered : accepted (answer (diagram_of t) (population_of t s)) ≡ validated (diagram_of t) s
  answered = sym (rw j.whole)

  pub told : (r : Verdict) → answer_of r ≡ answer (diagram_of t) (population_of t s) → validate_of (Ok r) ≡ validated (diagram_of t) s
  told r h = ap accepted h ∙ answered

-- ---- any table

module _ (t s : List ℕ) {r : Result Widened Refusal} {f : Refusal} (p : r ≡ Err f)
    (e : acceptance_of r ≡ described (diagram_in table_line t)) where
  pub table-refused : validate_of (Err f) ≡ validate_call t s
  unfolding validate_call
  table-refused = rw (accepted-refused t p e, validate_call) refl

module _ (t w : List ℕ) {w' : List ℕ} {r : Result Widened Refusal} {v : Widened} (p : r ≡ Ok v)
    (e : acceptance_of r ≡ described (diagram_in table_line t)) (ew : w' ≡ buffer_after (widened t) w) where
  known : Accepted t (take v.length w') v.types v.preds v.roles v.groups
  known = accepted_as t w p e ew

  pub table-valid : Valid (take v.length w')
  table-valid = known.valid

  pub table-walkable : Walkable (take v.length w')
  table-walkable = valid-walkable table-valid

  pub table-validated : (s : List ℕ) (a : Result Verdict Refusal) → validate_of a ≡ validated (diagram_of (take v.length w')) s → validate_of a ≡ validate_call t s
  unfolding validate_call
  table-validated s a h = rw (known.reads, validate_call) h
