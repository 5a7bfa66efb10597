-- What a caller knows of a table that was refused or accepted.
use Rattle.std.specs.Prelude.{ℕ, ◌≤◌, ◌≡◌, refl, List, ◌++◌, length, take, drop, Result, Ok, Err}
use Rattle.std.proofs.Common.{arith, sym, ◌∙◌, ⊎_elim, length-append, take_at, length-take-le}
use Rattle.std.proofs.Math.Path.{ap}
use Rattle.orm.specs.Diagram.{Diagram, totals}
use Rattle.orm.specs.Text.{table_line}
use Rattle.orm.specs.Outcome.{Outcome, refused, accepted, ◌>>=◌, buffer_after}
use Rattle.orm.specs.Calls.{diagram_in}
use Rattle.reading.specs.Laws.{table-accepted-iff, accepted_or_fault}
use Rattle.reading.specs.WideTable.{wide_table}
use Rattle.grammar.specs.Fault as faults
use Rattle.grammar.specs.declared.Fault.{Fault}
use Rattle.refusals.specs.Refusal.{number_of, refusal_of}
use Rattle.refusals.specs.declared.Refusal.{Refusal}
use Rattle.refusals.specs.declared.Refusal.TheVariants.{Faulty, Emptied, TooShort, Cells, NoSuch, Impossible}
use Rattle.table.specs.Positions.{diagram_of}
use Rattle.table.specs.Laws.WideTable.{wide_back}
use Rattle.table.specs.Laws.Valid.{wide-valid}
use Rattle.widening.specs.declared.Widened.{Widened}
use Rattle.widening.specs.Answer.{Described, described, acceptance_of, widened, Accepted}

-- ---- an outcome of which something is told

module _ {A B : Type 0} (tell : A → B) where
  pub told-refused : (o : Outcome A) {c place round : ℕ} → refused c place round ≡ (o >>= λ a. accepted (tell a)) → o ≡ refused c place round
  told-refused (refused c₁ place₁ round₁) e = cc
  told-refused (accepted a) e = let z : ◌≡◌ {A = ℕ} 0 1 = cc in absurd (omega arith)

  pub record Told (o : Outcome A) (x : B) : Type 0 where
    pub of : A
    pub reads : o ≡ accepted of
    pub is : tell of ≡ x

  pub told-accepted : (o : Outcome A) {x : B} → accepted x ≡ (o >>= λ a. accepted (tell a)) → Told o x
  told-accepted (refused c place round) e = let z : ◌≡◌ {A = ℕ} 0 1 = cc in absurd (omega arith)
  told-accepted (accepted a) e = record { of = a; reads = refl; is = cc }

-- ---- refused

-- The refusal is that of a fault, 1 to 6, and of the line with it
pub record Faulted (t : List ℕ) (x : Refusal) : Type 0 where
  pub fault : Fault
  pub line : ℕ
  pub is : x ≡ Faulty fault line
  pub refuses : diagram_in table_line t ≡ refused (faults.number_of fault) line 0

by_number : (t : List ℕ) (x : Refusal) {c : ℕ} → number_of x ≡ c → c ≤ 6 → diagram_in table_line t ≡ refusal_of x → Faulted t x
by_number t (Faulty f line) q h e = record { fault = f; line = line; is = refl; refuses = e }
by_number t (Emptied set round) q h e = absurd (omega arith)
by_number t (TooShort needed) q h e = absurd (omega arith)
by_number t (Cells at) q h e = absurd (omega arith)
by_number t (NoSuch number) q h e = absurd (omega arith)
by_number t (Impossible set round) q h e = absurd (omega arith)

faulted : (t : List ℕ) (x : Refusal) → diagram_in table_line t ≡ refusal_of x → Faulted t x
faulted t x e =
    ⊎_elim
    (λ (d, a). let z : ◌≡◌ {A = ℕ} 0 1 = cc in absurd (omega arith))
    (λ (c, place, h, r). let q : number_of x ≡ c = cc in by_number t x q h.1 e)
    (accepted_or_fault table_line t)

module _ (t : List ℕ) {r : Result Widened Refusal} {x : Refusal} (p : r ≡ Err x)
    (e : acceptance_of r ≡ described (diagram_in table_line t)) where
  pub accepted-refused : diagram_in table_line t ≡ refusal_of x
  accepted-refused =
      told-refused (λ (d : Diagram). record { wide_length = length (wide_table d); totals = totals d }) (diagram_in table_line t)
      (sym (ap acceptance_of p) ∙ e)

  pub accepted-faulted : Faulted t x
  accepted-faulted = faulted t x accepted-refused

-- ---- accepted

module _ (t w : List ℕ) {w' : List ℕ} {r : Result Widened Refusal} {v : Widened} (p : r ≡ Ok v)
    (e : acceptance_of r ≡ described (diagram_in table_line t)) (q : w' ≡ buffer_after (widened t) w) where
  tell : Diagram → Described
  tell d = record { wide_length = length (wide_table d); totals = totals d }

  told : Told tell (diagram_in table_line t)
      (record { wide_length = v.length; totals = record { types = v.types; preds = v.preds; roles = v.roles; groups = v.groups } })
  unfolding tell
  told = told-accepted tell (diagram_in table_line t) (sym (ap acceptance_of p) ∙ e)

  long : length (wide_table told.of) ≡ v.length
  unfolding tell
  long = ap (λ (x : Described). x.wide_length) told.is

  whole : w' ≡ wide_table told.of ++ drop (length (wide_table told.of)) w
  unfolding buffer_after
  whole = q ∙ ap (λ (o : Outcome Diagram). buffer_after (o >>= λ d. accepted (wide_table d)) w) told.reads

  pub accepted-within : v.length ≤ length w'
  accepted-within = omega (arith, ap length whole, length-append (wide_table told.of) (drop (length (wide_table told.of)) w), long)

  pub accepted-front : v.length ≡ length (take v.length w')
  accepted-front = sym (length-take-le v.length w' accepted-within)

  front : take v.length w' ≡ wide_table told.of
  front = ap (take v.length) whole ∙ take_at (wide_table told.of) (drop (length (wide_table told.of)) w) v.length long

  pub accepted_as : Accepted t (take v.length w') v.types v.preds v.roles v.groups
  unfolding tell
  accepted_as =
      let formed = ((table-accepted-iff t told.of).0 told.reads).1 in
      let same-d : diagram_of (take v.length w') ≡ told.of = ap diagram_of front ∙ wide_back told.of formed in
      record {
        valid = wide-valid front formed;
        reads = told.reads ∙ ap {B = Outcome Diagram} accepted (sym same-d);
        totals_are = ap totals same-d ∙ ap (λ (x : Described). x.totals) told.is;
      }
