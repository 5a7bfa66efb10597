-- What is printed, by what reading, check and populate answer: from demand 3 on running code.
use Rattle.std.specs.Prelude.{ℕ, suc, ◌≤◌, ◌<◌, List, [], ◌∷◌, length, take}
use Rattle.std.proofs.Math.Path.{◌≡◌, refl, sym, ap, ap₂}
use Rattle.std.proofs.Common.{◌∙◌, take_all}
use Rattle.std.proofs.Math.Logic.{⊎_elim}
use Rattle.fixpoint.specs.Limits.{unsatisfiable, fixpoint}
use Rattle.orm.specs.Diagram.{Diagram, table}
use Rattle.orm.specs.Text.{text_line, line_text}
use Rattle.orm.specs.Sets.{verdict}
use Rattle.orm.specs.Population.{cells}
use Rattle.orm.specs.Populate.{population}
use Rattle.orm.specs.Outcome.{Outcome, refused, accepted, ◌>>=◌, fitted, length_of}
use Rattle.orm.specs.Calls.{diagram_in, sizes_by, sizes_of, read_call}
use Rattle.orm.specs.Program.{report, output, reported, program}
use Rattle.reading.specs.Laws.{fits, does_not-fit, accepted_or_fault}
use Rattle.guarantee.proofs.Guarantee.{guarantee}
use Rattle.populate.specs.Demand3.{TextOf}
use Rattle.command.specs.Reports.{refusal_line, report_on, text_report, table_report}

-- ---- of a diagram, by the verdict of the rounds

module _ (d : Diagram) where
  pub emptied-report : {set n : ℕ} → verdict d ≡ unsatisfiable set n → output (report_on d) ≡ refusal_line 7 (suc set) n
  unfolding report_on sizes_of sizes_by output refusal_line
  emptied-report e = rw (e, report_on, sizes_of, sizes_by) refl

  module _ {n : ℕ} {c : List ℕ} (e : verdict d ≡ fixpoint n c) where
    abbrev ended : Outcome (List ℕ) → List ℕ
    ended o = output (o >>= λ w. accepted (report n c (population d c)))

    settled-so : output (report_on d) ≡ ended (fitted 16000 (cells (population d c)))
    unfolding report_on sizes_of sizes_by
    settled-so = rw (e, report_on, sizes_of, sizes_by) refl

    pub settled-report : length (cells (population d c)) ≤ 16000 → output (report_on d) ≡ report n c (population d c)
    unfolding output
    settled-report h = settled-so ∙ ap ended (fits 16000 (cells (population d c)) h)

    pub large-report : 16000 < length (cells (population d c)) → output (report_on d) ≡ refusal_line 8 (length (cells (population d c))) 0
    unfolding output refusal_line
    large-report h = settled-so ∙ ap ended (does_not-fit 16000 (cells (population d c)) h)

-- ---- of a text

module _ (text : List ℕ) where
  pub text-report : (x : TextOf text) → text_report text ≡ table_report (table x.diagram)
  unfolding text_report table_report
  text-report x =
      ap (λ (o : Outcome Diagram). output (o >>= report_on))
      ((guarantee.accepted_texts text x.diagram).1 (x.same_text, x.well_formed)
      ∙ sym ((guarantee.accepted_tables (table x.diagram) x.diagram).1 (refl, x.well_formed)))

  -- a text that is that of no diagram
  pub faulty-report : (space : ℕ) {number line : ℕ} → (TextOf text → ⊥) → refused number line 0 ≡ length_of (read_call text space)
      → text_report text ≡ refusal_line number line 0
  unfolding text_report read_call output refusal_line
  faulty-report space {number} {line} none e =
      ⊎_elim (λ (d, q). absurd (none (let (s, w) = (guarantee.accepted_texts text d).0 q in record { diagram = d; same_text = s; well_formed = w })))
      (λ (c, place, h, q).
      let same : ◌≡◌ {A = Outcome ℕ} (refused number line 0) (refused c place 0) =
      e ∙ ap (λ (o : Outcome Diagram). length_of (o >>= λ d. fitted space (table d))) q in
      let ec : number ≡ c = cc in
      let ep : line ≡ place = cc in
      ap (λ (o : Outcome Diagram). output (o >>= report_on)) q ∙ ap₂ (λ (a b : ℕ). line_text "refused" (a ∷ b ∷ 0 ∷ [])) (sym ec) (sym ep))
      (accepted_or_fault text_line text)

pub program-cut : (input : List ℕ) → program input ≡ text_report (take 8192 input)
unfolding program reported text_report report_on
program-cut input = go (diagram_in text_line (take 8192 input))
  where
    go : (o : Outcome Diagram) → output (o >>= report_on) ≡ output (o >>= report_on)
    go o = refl

pub program-whole : (input : List ℕ) → length input ≤ 8192 → program input ≡ text_report input
program-whole input h = program-cut input ∙ ap text_report (take_all 8192 input h)
