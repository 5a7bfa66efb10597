-- The length of the text, and the answers of the public function, from how the table is accepted and the room.
use Prim.Native.Nat.{ℕ, ◌≤◌, ◌<◌}
use native.Mathlib.Omega.{arith}
use mathlib.Core.Path.{◌≡◌, refl, sym, ap, ◌∙◌}
use mathlib.Core.List.{List}
use lib.ListN.{length, take}
use Rattle.orm.specs.Diagram.{Totals, totals}
use Rattle.orm.specs.Text.{table_line, render}
use Rattle.orm.specs.Outcome.{Outcome, refused, accepted, length_of, fitted, buffer_after}
use Rattle.orm.specs.Calls.{diagram_in, write_call}
use Rattle.reading.specs.Laws.{fits, does_not-fit}
use Rattle.reading.specs.TextLength.{text-length}
use Rattle.buffer.specs.Written.{WroteAll}
use Rattle.buffer.specs.Laws.{wrote-end, wrote-whole}
use Rattle.table.specs.Positions.{diagram_of}
use Rattle.std.specs.Prelude.{Result, Ok, Err}
use Rattle.refusals.specs.Refusal.{refusal_of}
use Rattle.refusals.specs.declared.Refusal.{Refusal}
use Rattle.widening.specs.Answer.{acceptance_of, described, widened, Accepted}
use Rattle.widening.specs.Laws.Accepts.{accepted-refused, accepted_as}
use Rattle.widening.specs.declared.Widened.{Widened}
use Rattle.writer.specs.Lines.{Counted}

-- ---- a valid table

module _ (t : List ℕ) {types preds roles : ℕ} (counted : Counted t types preds roles) (text : List ℕ) where
  -- a buffer with room for every text has room for this one
  pub room_most : 4553 ≤ length text → length (render (diagram_of t)) ≤ length text
  room_most h = omega (arith, text-length (diagram_of t) counted.valid.formed)

  -- where the text ends in the scratch
  pub text-end : {text' : List ℕ} {n : ℕ} → length text ≡ 4553 → WroteAll text (render (diagram_of t)) text' n → n ≡ length (render (diagram_of t))
  text-end long w = wrote-end w (room_most (omega arith))

  pub room-found : {n : ℕ} → n ≡ length (render (diagram_of t)) → n ≤ length text → length (render (diagram_of t)) ≤ length text
  room-found long h = omega arith

module _ (r text : List ℕ) where
  module _ {n : ℕ} (long : n ≡ length r) (h : length text < n) where
    call-short : fitted (length text) r ≡ refused 8 n 0
    call-short = rw long (does_not-fit (length text) r (omega arith))

    pub short-outcome : refused 8 n 0 ≡ length_of (fitted (length text) r)
    short-outcome = sym (ap length_of call-short)

    pub short-kept : text ≡ buffer_after (fitted (length text) r) text
    unfolding buffer_after
    short-kept = sym (ap (λ (o : Outcome (List ℕ)). buffer_after o text) call-short)

  module _ {text' : List ℕ} {n : ℕ} (w : WroteAll text r text' n) (room : length r ≤ length text) where
    pub whole-outcome : accepted n ≡ length_of (fitted (length text) r)
    whole-outcome = ap accepted (wrote-end w room) ∙ sym (ap length_of (fits (length text) r room))

    pub whole-written : text' ≡ buffer_after (fitted (length text) r) text
    unfolding buffer_after
    whole-written = wrote-whole w room ∙ sym (ap (λ (o : Outcome (List ℕ)). buffer_after o text) (fits (length text) r room))

-- ---- any table

module _ (t text : List ℕ) {r : Result Widened Refusal} {f : Refusal} (p : r ≡ Err f)
    (e : acceptance_of r ≡ described (diagram_in table_line t)) where
  call-refused : write_call t (length text) ≡ refusal_of f
  unfolding write_call
  call-refused = rw (accepted-refused t p e, write_call) refl

  pub refused-outcome : refusal_of f ≡ length_of (write_call t (length text))
  refused-outcome = sym (ap length_of call-refused)

  pub refused-kept : text ≡ buffer_after (write_call t (length text)) text
  unfolding buffer_after
  refused-kept = sym (ap (λ (o : Outcome (List ℕ)). buffer_after o text) call-refused)

module _ (t w : List ℕ) {w' : List ℕ} {r : Result Widened Refusal} {v : Widened} (p : r ≡ Ok v)
    (e : acceptance_of r ≡ described (diagram_in table_line t)) (ew : w' ≡ buffer_after (widened t) w) where
  known : Accepted t (take v.length w') v.types v.preds v.roles v.groups
  known = accepted_as t w p e ew

  pub table_counted : Counted (take v.length w') v.types v.preds v.roles
  unfolding totals
  table_counted = record {
    valid = known.valid;
    types = ap (λ (x : Totals). x.types) (sym known.totals_are);
    preds = ap (λ (x : Totals). x.preds) (sym known.totals_are);
    roles = ap (λ (x : Totals). x.roles) (sym known.totals_are);
  }

  call-fitted : (space : ℕ) → write_call t space ≡ fitted space (render (diagram_of (take v.length w')))
  unfolding write_call
  call-fitted space = rw (known.reads, write_call) refl

  module _ (text : List ℕ) where
    pub table-outcome : {o : Outcome ℕ} → o ≡ length_of (fitted (length text) (render (diagram_of (take v.length w')))) → o ≡ length_of (write_call t (length text))
    table-outcome h = h ∙ sym (ap length_of (call-fitted (length text)))

    pub table-written : {text' : List ℕ} → text' ≡ buffer_after (fitted (length text) (render (diagram_of (take v.length w')))) text
        → text' ≡ buffer_after (write_call t (length text)) text
    table-written h = h ∙ sym (ap (λ (o : Outcome (List ℕ)). buffer_after o text) (call-fitted (length text)))
