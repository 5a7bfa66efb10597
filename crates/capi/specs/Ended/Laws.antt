-- What the four numbers and the array say of the outcome, and the outcome of them.
use Rattle.std.specs.Prelude.{ℕ, suc, ◌≤◌, ◌⊎◌, Bool, List, [], ◌∷◌, ltb}
use Rattle.std.proofs.Common.{arith, ap, subst, ◌∙◌, inl, inr, le-ltb}
use Rattle.std.proofs.Math.Path.{◌≡◌, refl}
use Rattle.std.proofs.Math.Bool.{true, false}
use Rattle.std.proofs.Math.ListN.{length}
use Rattle.orm.specs.Diagram.{Diagram}
use Rattle.orm.specs.Population.{Population}
use Rattle.orm.specs.Constraints.{Answer, valid, breaks, answer}
use Rattle.orm.specs.Outcome.{Outcome, refused, accepted, Sized, ◌>>=◌, fitted, buffer_after, written}
use Rattle.orm.specs.Text.{table_line}
use Rattle.orm.specs.Calls.{diagram_in, population_in, validate_call}
use Rattle.orm.specs.Meaning.{ValidPopulation}
use Rattle.orm.proofs.Laws.Named.{breaks-from_1}
use Rattle.orm.proofs.Laws.Cells.{population_in-iff, validate_iff}
use Rattle.guarantee.specs.Guarantee.{FaultOfForm}
use Rattle.guarantee.proofs.Guarantee.{guarantee}
use Rattle.populate.specs.Demand3.{TableOf}
use Rattle.populate.specs.Tied.{table-accepted}
use Rattle.capi.specs.Answers.{numbers, verdict_numbers}
use Rattle.capi.specs.Ended.{Converted, Settled, HasValidated, Gives, RefusedWith, Faulty}

-- ---- reading, writing, check and populating

module _ {four before after : List ℕ} where
  pub converted : {o o' : Outcome (List ℕ)} → o ≡ o' → Converted o four before after → Converted o' four before after
  converted e = subst (λ (o : Outcome (List ℕ)). Converted o four before after) e

  pub settled : {o o' : Outcome Sized} → o ≡ o' → Settled o four before after → Settled o' four before after
  settled e = subst (λ (o : Outcome Sized). Settled o four before after) e

  pub converted-refused : {o : Outcome (List ℕ)} {number line : ℕ} → o ≡ refused number line 0 → Converted o four before after
      → RefusedWith number line four before after
  unfolding numbers buffer_after
  converted-refused e c = let w = converted e c in record { answer = w.answer; kept = w.array }

  pub settled-refused : {o : Outcome Sized} {number line : ℕ} → o ≡ refused number line 0 → Settled o four before after
      → RefusedWith number line four before after
  unfolding numbers buffer_after written
  settled-refused e c = let w = settled e c in record { answer = w.answer; kept = w.array }

  -- an array that is long enough
  pub converted-fits : {result : List ℕ} → length result ≤ length before → Converted (fitted (length before) result) four before after
      → Gives result four before after
  unfolding fitted numbers buffer_after
  converted-fits {result} enough c =
      let fits : fitted (length before) result ≡ accepted result = rw (le-ltb (length before) (length result) enough, fitted) refl in
      let w = converted fits c in
      record { answer = w.answer; front = w.array }

  -- and what four numbers that begin with 0 say
  pub converted-accepted : {result : List ℕ} → Converted (fitted (length before) result) four before after → {n : ℕ} → four ≡ 0 ∷ 0 ∷ 0 ∷ n ∷ []
      → (n ≡ length result) × Gives result four before after
  unfolding fitted numbers buffer_after
  converted-accepted {result} c {n} e = go (ltb (length before) (length result)) c
    where
      go : (b : Bool) → Converted (elim b [ true ↦ refused 8 (length result) 0 | false ↦ accepted result ]) four before after
          → (n ≡ length result) × Gives result four before after
      go true w = let q = w.answer in let z : ◌≡◌ {A = ℕ} 8 0 = cc in absurd (omega arith)
      go false w = let q = w.answer in (cc, record { answer = q; front = w.array })

-- A refusal of the reading stands
pub after-reading : {A B : Type 0} {o : Outcome A} (f : A → Outcome B) {number line : ℕ} → o ≡ refused number line 0 → (o >>= f) ≡ refused number line 0
after-reading f e = ap (◌>>= f) e

-- A table is that of a diagram; or it has a fault of form, and the call tells so
pub table_or_fault : {A B : Type 0} {t four : List ℕ} {before after : B} (call : ℕ → Outcome A) (space : ℕ)
    → (((d : Diagram) → ¬ (diagram_in table_line t ≡ accepted d)) → FaultOfForm call)
    → ((number line : ℕ) → call space ≡ refused number line 0 → RefusedWith number line four before after)
    → TableOf t ⊎ Faulty t four before after
table_or_fault {t = t} {four = four} {before = before} {after = after} call space faults told = go (diagram_in table_line t) refl
  where
    go : (o : Outcome Diagram) → diagram_in table_line t ≡ o → TableOf t ⊎ Faulty t four before after
    go (accepted d) e =
        let (same, form) = (guarantee.accepted_tables t d).0 e in
        inl (record { diagram = d; same_table = same; well_formed = form })
    go (refused c place round) e =
        let none : (d : Diagram) → ¬ (diagram_in table_line t ≡ accepted d) = λ d q. let z : ◌≡◌ {A = ℕ} 0 1 = cc in omega arith in
        let f = faults none in
        inr
        (record {
          none = λ x. none x.diagram (table-accepted x);
          fault = f.number;
          line = f.place;
          of_form = f.of_form;
          refused = told f.number f.place (f.refuses space);
        })

-- ---- validating

-- A K, which is never 0
pub named : (t cells : List ℕ) {four : List ℕ} → HasValidated t cells four → {k number : ℕ} → four ≡ 0 ∷ 0 ∷ suc k ∷ number ∷ []
    → validate_call t cells ≡ accepted (breaks (suc k) number)
unfolding verdict_numbers
named t cells {four} has {k} {number} e = go (validate_call t cells) has
  where
    go : (o : Outcome Answer) → four ≡ verdict_numbers o → o ≡ accepted (breaks (suc k) number)
    go (refused n place round) q = let z : 0 ≡ suc k = cc in absurd (omega arith)
    go (accepted valid) q = let z : 0 ≡ suc k = cc in absurd (omega arith)
    go (accepted (breaks j m)) q =
        let same : j ≡ suc k = cc in
        let own : m ≡ number = cc in
        rw (same, own)

-- Yes, of cells that are cut into this population
pub says-yes : {t : List ℕ} (cells : List ℕ) {four : List ℕ} (x : TableOf t) → HasValidated t cells four → four ≡ 0 ∷ 0 ∷ 0 ∷ 0 ∷ []
    → {o : Population} → population_in x.diagram cells ≡ accepted o → (w : ValidPopulation x.diagram cells) × (w.population ≡ o)
unfolding validate_call verdict_numbers
says-yes {t} cells x has e {o} cut = go (answer x.diagram o) refl
  where
    d : Diagram
    d = x.diagram

    outcome : validate_call t cells ≡ accepted (answer d o)
    outcome = rw (table-accepted x, validate_call, cut)

    go : (a : Answer) → answer d o ≡ a → (w : ValidPopulation d cells) × (w.population ≡ o)
    go valid q =
        let w : ValidPopulation d cells = (validate_iff t cells d (table-accepted x)).0 (outcome ∙ ap accepted q) in
        (w, cc ((population_in-iff d cells w.population).1 (w.cells_of, w.shaped), cut))
    go (breaks k n) q =
        let z : k ≡ 0 = cc (ap verdict_numbers outcome) in
        absurd (omega (arith, breaks-from_1 d o q))
