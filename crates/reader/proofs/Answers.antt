-- The answers of the public functions, from how the lines end.
use Rattle.std.specs.Prelude.{Ok, Err}
use Prim.Native.Nat.{ℕ}
use native.Mathlib.Omega.{arith}
use mathlib.Core.Path.{◌≡◌, refl, sym, ap}
use mathlib.Core.List.{List}
use lib.ListN.{length, take}
use Rattle.orm.specs.Diagram.{Diagram, table}
use Rattle.orm.specs.Text.{text_line, table_line}
use Rattle.orm.specs.Outcome.{Outcome, refused, accepted, length_of, fitted, buffer_after}
use Rattle.orm.specs.Calls.{diagram_in, read_call}
use Rattle.reading.specs.Walk.{Summary, summary}
use Rattle.refusals.specs.declared.Refusal.{Refusal}
use Rattle.refusals.specs.Refusal.{refusal_of}
use Rattle.reader.specs.declared.Whole.{Whole}
use Rattle.reader.specs.Answer.{totals_of, conversion_of, form_of, totalled}
use Rattle.reader.specs.Lines.{summarised, lines_of}

pub was_refused : (o : Outcome Diagram) (c p n : ℕ) → refused c p n ≡ summarised o → o ≡ refused c p n
was_refused (refused c' p' r) c p n e = sym (ap same e)
  where
    same : Outcome Summary → Outcome Diagram
    same (refused c p r) = refused c p r
    same (accepted a) = refused 0 0 0
was_refused (accepted d) c p n e = let z : ◌≡◌ {A = ℕ} 0 1 = cc in absurd (omega arith)

pub was_accepted : (o : Outcome Diagram) (s : Summary) → accepted s ≡ summarised o → (d : Diagram) × (o ≡ accepted d) × (s ≡ summary d)
was_accepted (refused c p r) s e = let z : ◌≡◌ {A = ℕ} 0 1 = cc in absurd (omega arith)
was_accepted (accepted d) s e = (d, refl, cc)

module _ (numbers : List ℕ) (o : Outcome Diagram) where
  faulty : (r : Refusal) → lines_of numbers (Err r) ≡ summarised o → o ≡ refusal_of r
  faulty r e = was_refused o _ _ _ e

  whole : (w : Whole) → lines_of numbers (Ok w) ≡ summarised o
      → (d : Diagram) × (o ≡ accepted d) × (record { numbers = take w.length numbers; totals = totals_of w.totals } ≡ summary d)
  whole w e = was_accepted o _ e

-- ---- read

module _ (text numbers t : List ℕ) where
  module _ (r : Refusal) (e : lines_of numbers (Err r) ≡ summarised (diagram_in text_line text)) where
    call-refused : read_call text (length t) ≡ refusal_of r
    unfolding read_call
    call-refused = rw (faulty numbers (diagram_in text_line text) r e)

    pub refused_outcome : conversion_of (Err r) ≡ length_of (read_call text (length t))
    refused_outcome = sym (ap length_of call-refused)

    pub refused_kept : t ≡ buffer_after (read_call text (length t)) t
    unfolding buffer_after
    refused_kept = sym (ap (λ (o : Outcome (List ℕ)). buffer_after o t) call-refused)

  module _ (w : Whole) (e : lines_of numbers (Ok w) ≡ summarised (diagram_in text_line text)) where
    pub call_fitted : fitted (length t) (take w.length numbers) ≡ read_call text (length t)
    unfolding read_call summary
    call_fitted =
        let d = whole numbers (diagram_in text_line text) w e in
        let same : take w.length numbers ≡ table d.0 = ap (λ (s : Summary). s.numbers) d.2 in
        rw d.1 (ap (fitted (length t)) same)

-- ---- form

module _ (t : List ℕ) where
  pub form_refused : (r : Refusal) → lines_of t (Err r) ≡ summarised (diagram_in table_line t) → form_of (Err r) ≡ totalled (diagram_in table_line t)
  form_refused r e = rw (faulty t (diagram_in table_line t) r e)

  pub form_accepted : (w : Whole) → lines_of t (Ok w) ≡ summarised (diagram_in table_line t) → form_of (Ok w.totals) ≡ totalled (diagram_in table_line t)
  unfolding summary
  form_accepted w e =
      let d = whole t (diagram_in table_line t) w e in
      rw d.1 (ap (λ (s : Summary). accepted s.totals) d.2)
