-- The walk from the place at hand comes to the whole walk, and so to the reading.
use Prim.Native.Nat.{ℕ, suc, ◌+◌}
use native.Mathlib.Numerals.{add-one}
use mathlib.Core.Path.{◌≡◌, refl, sym, ap, ◌∙◌}
use mathlib.Core.Bool.{true, false}
use mathlib.Core.Option.{Option, none, some}
use mathlib.Core.List.{List, [], ◌∷◌, ◌++◌}
use lib.ListN.{length}
use Rattle.orm.specs.Diagram.{Diagram, LineKind}
use Rattle.orm.specs.Reader.{Reading, rejected, read, Cut, broken, cut}
use Rattle.orm.specs.Form.{◌unless◌, first_of, ranges, in_ranges, reading}
use Rattle.orm.specs.Outcome.{refused, accepted, outcome_of}
use Rattle.orm.specs.Calls.{diagram_in}
use Rattle.reading.specs.Lines.{Cuts}
use Rattle.reading.specs.Walk.{Summary, line_then, nothing_left}
use Rattle.reading.specs.Walks.Diagrams.{told, walk-reads}
use Rattle.grammar.specs.declared.Fault.{Fault}
use Rattle.grammar.specs.declared.Counts.{Counts}
use Rattle.grammar.specs.declared.Awaited.{Awaited}
use Rattle.grammar.specs.declared.Awaited.TheVariants.{AtDiagram, AtTypes, AtType, AtPreds, AtPred, AtRole, AtFreq, AtEnd, Over}
use Rattle.grammar.specs.Fault.{number_of}
use Rattle.grammar.specs.Awaited.{kind_at, is_going, counts_at, totals_of}
use Rattle.grammar.specs.Step.{tests_at, next_at, refusing, going, stepped, step_at}
use Rattle.grammar.specs.Walk.{from}
use Rattle.grammar.specs.Laws.Walk.{goes}
use Rattle.reader.specs.Lines.{summarised}
use Rattle.reader.specs.Reach.{Reach, halted, reached, line_step}

-- ---- one line of the walk

-- what a line leads to
abbrev onward : (LineKind → List ℕ → Cut) → ℕ → Reach → Reading Summary
onward next n (halted c) = rejected c n
onward next n (reached p acc e rest) = from next p acc (suc n) rest

walk : (next : LineKind → List ℕ → Cut) (p : Awaited) (acc : List ℕ) (n : ℕ) (s : List ℕ) → is_going p ≡ true
    → from next p acc n s ≡ onward next n (line_step next p acc s)
unfolding line_then line_step step_at
walk next p acc n s g = ap (λ (w : ℕ → List ℕ → Reading Summary). w n s) (goes next p acc g) ∙ go (next (kind_at p) s)
  where
    fine : (v rest : List ℕ) (o : Option ℕ)
        → ◌≡◌ {A = Reading Summary} (elim o [ some c ↦ rejected c n | none ↦ from next (next_at p acc v) (acc ++ v) (suc n) rest ])
        (onward next n (elim (stepped o (next_at p acc v)) [
          | refusing c ↦ halted c
          | going q ↦ reached q (acc ++ v) (length acc + length v) rest
        ]))
    fine v rest none = refl
    fine v rest (some c) = refl

    go : (c : Cut)
        → ◌≡◌ {A = Reading Summary} (elim c [
          | broken ↦ rejected 1 n
          | cut v rest ↦
              elim (first_of (2 unless in_ranges (ranges (kind_at p)) v ∷ tests_at p acc v)) [
                | some c ↦ rejected c n
                | none ↦ from next (next_at p acc v) (acc ++ v) (suc n) rest
              ]
        ])
        (onward next n (elim c as (λ _. Reach) [
          | broken ↦ halted 1
          | cut v rest ↦
              elim (step_at p acc v) [
                | refusing c ↦ halted c
                | going q ↦ reached q (acc ++ v) (length acc + length v) rest
              ]
        ]))
    go broken = refl
    go (cut v rest) = fine v rest (first_of (2 unless in_ranges (ranges (kind_at p)) v ∷ tests_at p acc v))

-- ---- the whole walk

abbrev pub Running : (LineKind → List ℕ → Cut) → List ℕ → Awaited → List ℕ → ℕ → List ℕ → Type 0
Running next source p acc n s = from next p acc n s ≡ from next AtDiagram [] 1 source

whole : {form : LineKind → List ℕ → List ℕ} (next : LineKind → List ℕ → Cut) → Cuts form next → (source : List ℕ)
    → outcome_of (from next AtDiagram [] 1 source) ≡ summarised (diagram_in next source)
unfolding from diagram_in outcome_of
whole next cuts source = ap outcome_of (walk-reads next cuts source) ∙ go (reading next source)
  where
    go : (r : Reading Diagram) → outcome_of (told r) ≡ summarised (outcome_of r)
    go (rejected c at) = refl
    go (read d n rest) = refl

-- A turn from the place `p`, at line `n`: `acc` are the numbers so far, `s` is what is left of the source
module _ {form : LineKind → List ℕ → List ℕ} (next : LineKind → List ℕ → Cut) (cuts : Cuts form next) (source : List ℕ) (p : Awaited)
    (acc s : List ℕ) (n : ℕ) (w : Running next source p acc n s) where
  pub halts : (f : Fault) → is_going p ≡ true → halted (number_of f) ≡ line_step next p acc s
      → refused (number_of f) n 0 ≡ summarised (diagram_in next source)
  unfolding outcome_of
  halts f g e = sym (ap outcome_of (sym w ∙ walk next p acc n s g ∙ ap (onward next n) (sym e))) ∙ whole next cuts source

  pub goes_on : (q : Awaited) (acc' : List ℕ) (e : ℕ) (rest : List ℕ) → is_going p ≡ true → reached q acc' e rest ≡ line_step next p acc s
      → Running next source q acc' (n + 1) rest
  goes_on q acc' e rest g x = rw add-one (sym (walk next p acc n s g ∙ ap (onward next n) (sym x)) ∙ w)

  at-over : is_going p ≡ false → from next p acc n s ≡ nothing_left next (totals_of (counts_at p)) acc n s
  unfolding from
  at-over g = go p g
    where
      go : (p : Awaited) → is_going p ≡ false → from next p acc n s ≡ nothing_left next (totals_of (counts_at p)) acc n s
      go AtDiagram g = cc
      go (AtTypes k) g = cc
      go (AtType k t o l) g = cc
      go (AtPreds k t) g = cc
      go (AtPred c) g = cc
      go (AtRole b l) g = cc
      go (AtFreq b o l) g = cc
      go (AtEnd c) g = cc
      go (Over c) g = refl

  pub runs_on : (x : ℕ) (xs : List ℕ) → is_going p ≡ false → s ≡ x ∷ xs → refused 1 n 0 ≡ summarised (diagram_in next source)
  unfolding nothing_left outcome_of
  runs_on x xs g e =
      let surplus : nothing_left next (totals_of (counts_at p)) acc n s ≡ rejected 1 n = rw e in
      sym (ap outcome_of (sym w ∙ at-over g ∙ surplus)) ∙ whole next cuts source

  pub ends : (c : Counts) → is_going p ≡ false → c ≡ counts_at p → s ≡ []
      → accepted (record { numbers = acc; totals = totals_of c }) ≡ summarised (diagram_in next source)
  unfolding nothing_left outcome_of
  ends c g ec e =
      let totals = totals_of (counts_at p) in
      let all : nothing_left next totals acc n s ≡ read (record { numbers = acc; totals = totals }) n [] = rw e in
      rw ec (sym (ap outcome_of (sym w ∙ at-over g ∙ all)) ∙ whole next cuts source)
