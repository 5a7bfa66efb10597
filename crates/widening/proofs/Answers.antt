-- What the reader says of a table, and what that leads to.
use Prim.Native.Nat.{ℕ, ◌≤◌}
use native.Mathlib.Omega.{arith}
use mathlib.Core.Path.{◌≡◌, sym, ap, ap₂, ◌∙◌}
use mathlib.Core.List.{List}
use lib.ListN.{length}
use Rattle.orm.specs.Diagram.{Diagram, Totals, totals, table}
use Rattle.orm.specs.Text.{table_line}
use Rattle.orm.specs.WellFormed.{WellFormed}
use Rattle.orm.specs.Outcome.{Outcome, accepted, ◌>>=◌, buffer_after}
use Rattle.orm.specs.Calls.{diagram_in}
use Rattle.reading.specs.Laws.{table-accepted-iff}
use Rattle.reading.specs.WideTable.{wide_table, most_numbers}
use Rattle.reading.proofs.TableLength.{wide_short}
use Rattle.refusals.specs.declared.Refusal.{Refusal}
use Rattle.refusals.specs.Refusal.{refusal_of}
use Rattle.reader.specs.Answer.{totals_of, form_of, totalled}
use Rattle.reader.specs.declared.Totals as reader
use Rattle.buffer.specs.Written.{WroteAll}
use Rattle.buffer.specs.Laws.{wrote-end, wrote-whole}
use Rattle.std.specs.Prelude.{Ok, Err}
use Rattle.widening.specs.Widened.{table_widened, Inside}
use Rattle.widening.specs.Answer.{described, acceptance_of, widened}
use Rattle.widening.specs.Laws.Tables.{table-wide, table_inside}
use Rattle.widening.specs.Laws.Accepts.{told-refused, Told, told-accepted}

-- refused
module _ (t : List ℕ) (x : Refusal) (e : form_of (Err x) ≡ totalled (diagram_in table_line t)) where
  reads : diagram_in table_line t ≡ refusal_of x
  reads = told-refused totals (diagram_in table_line t) e

  pub refused_told : acceptance_of (Err x) ≡ described (diagram_in table_line t)
  refused_told = ap described (sym reads)

  pub refused_kept : (o : List ℕ) → o ≡ buffer_after (widened t) o
  unfolding buffer_after
  refused_kept o = ap (λ (x : Outcome Diagram). buffer_after (x >>= λ d. accepted (wide_table d)) o) (sym reads)

-- accepted, with so many types, predicates, roles and groups
module _ (t : List ℕ) (v : reader.Totals) (e : form_of (Ok v) ≡ totalled (diagram_in table_line t)) where
  told : Told totals (diagram_in table_line t) (totals_of v)
  told = told-accepted totals (diagram_in table_line t) e

  x : Diagram
  x = told.of

  is : t ≡ table x
  unfolding x
  is = ((table-accepted-iff t told.of).0 told.reads).0

  formed : WellFormed x
  unfolding x
  formed = ((table-accepted-iff t told.of).0 told.reads).1

  types_are : length x.types ≡ v.types
  unfolding x totals
  types_are = ap (λ (y : Totals). y.types) told.is

  preds-are : length x.preds ≡ v.preds
  unfolding x totals
  preds-are = ap (λ (y : Totals). y.preds) told.is

  pub form_inside : Inside v.types v.preds t
  form_inside = table_inside x formed is types_are preds-are

  module _ {o o' : List ℕ} {n : ℕ} (h : length o ≡ most_numbers) (w : WroteAll o (table_widened v.types v.preds t) o' n) where
    wide : WroteAll o (wide_table x) o' n
    wide = rw (table-wide x formed is types_are preds-are) at w

    room : length (wide_table x) ≤ length o
    room = omega (arith, wide_short x formed, h)

    pub widened_told : acceptance_of (Ok (record { length = n; types = v.types; preds = v.preds; roles = v.roles; groups = v.groups })) ≡ described (diagram_in table_line t)
    unfolding x
    widened_told =
        ap₂ (λ (k : ℕ) (y : Totals). accepted (record { wide_length = k; totals = y })) (wrote-end wide room) (sym told.is)
        ∙ ap described (sym told.reads)

    pub widened_written : o' ≡ buffer_after (widened t) o
    unfolding buffer_after x
    widened_written =
        wrote-whole wide room ∙ ap (λ (y : Outcome Diagram). buffer_after (y >>= λ d. accepted (wide_table d)) o) (sym told.reads)
