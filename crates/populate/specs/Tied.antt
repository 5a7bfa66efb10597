-- The proof of demand 3 on running code: from the contracts, by the guarantee.
use Prim.Native.Nat.{ℕ, ◌≤◌, ◌<◌}
use Rattle.std.proofs.Math.Decide.{dec_le}
use Rattle.std.proofs.Common.{arith, sym, ◌∙◌, ⊎_elim}
use Rattle.std.proofs.Math.Path.{◌≡◌, ap}
use Rattle.std.specs.Prelude.{refl, Result, Ok, Err}
use mathlib.Core.List.{List, ◌++◌}
use Rattle.std.proofs.Math.ListN.{length, drop}
use Rattle.orm.specs.Diagram.{Diagram, table}
use Rattle.orm.specs.Text.{text_line, table_line}
use Rattle.orm.specs.Outcome.{Outcome, refused, accepted, length_of, buffer_after, Sized, written, Handed, handed_back}
use Rattle.orm.specs.Calls.{diagram_in, read_call, check_call, populate_call}
use Rattle.guarantee.specs.Settling.{Writes}
use Rattle.guarantee.proofs.Ends.{refused_or_some}
use Rattle.guarantee.specs.Guarantee.{NoPopulation, EmptiedAt, RefusesEmptied, Populated, TableGuarantee, FaultOfForm}
use Rattle.guarantee.proofs.Guarantee.{guarantee}
use Rattle.reader.specs.Answer.{conversion_of}
use Rattle.refusals.specs.Refusal.{refusal_of}
use Rattle.refusals.specs.Laws.{told-emptied, told-short}
use Rattle.refusals.specs.declared.Refusal.{Refusal}
use Rattle.refusals.specs.declared.Refusal.TheVariants.{Faulty, Emptied, TooShort, Cells, NoSuch, Impossible}
use Rattle.bounds.specs.Answer.{settlement_of}
use Rattle.bounds.specs.declared.Written.{Written}
use Rattle.populate.specs.Answer.{cells_of}
use Rattle.populate.specs.Demand3.{TableOf, Making, settled_sizes, Means, TableMeans, TextOf, ReadMeans, Demand3}

-- ---- a call that ends by the guarantee

-- How it ends with a buffer
data Ending (t : List ℕ) (make : Making) (o : Outcome Sized) (before : List ℕ) : Type 0 where
  faulty : (number line : ℕ) → o ≡ refused number line 0 → number ≤ 6 → (TableOf t → ⊥) → Ending t make o before
  emptied : (x : TableOf t) (set round : ℕ) → o ≡ refused 7 set round → NoPopulation x.diagram → EmptiedAt x.diagram set round
      → Ending t make o before
  lacks : (x : TableOf t) (p : Populated t x.diagram) → o ≡ refused 8 (length (make x.diagram p.settled)) 0
      → length before < length (make x.diagram p.settled) → Ending t make o before
  writes : (x : TableOf t) (p : Populated t x.diagram)
      → o ≡ accepted (record { rounds = p.rounds; result = make x.diagram p.settled }) → Ending t make o before

module _ (t : List ℕ) (make : Making) (call : ℕ → Outcome Sized) (before : List ℕ) where
  -- of the table of a well-formed diagram
  module _ (x : TableOf t) (refuses : RefusesEmptied x.diagram call) (otherwise : ¬ NoPopulation x.diagram → Populated t x.diagram)
      (made : (p : Populated t x.diagram) → Writes call p.rounds (make x.diagram p.settled)) where
    some : ¬ NoPopulation x.diagram → Ending t make (call (length before)) before
    some s = go (otherwise s)
      where
        go : Populated t x.diagram → Ending t make (call (length before)) before
        go p = by_length (dec_le (length (make x.diagram p.settled)) (length before))
          where
            by_length : Dec (length (make x.diagram p.settled) ≤ length before) → Ending t make (call (length before)) before
            by_length (yes h) = writes x p ((made p).writes (length before) h)
            by_length (no h) = lacks x p ((made p).too_short (length before) (omega arith)) (omega arith)

    of-diagram : Ending t make (call (length before)) before
    of-diagram =
        ⊎_elim
        (λ (place, round, q).
        emptied x place round q ((refuses.exactly_when (length before)).0 (place, round, q)) (refuses.set_and_round (length before) place round q))
        some
        (refused_or_some refuses (length before))

  -- of any other table
  of_none : (TableOf t → ⊥) → FaultOfForm call → Ending t make (call (length before)) before
  of_none none f = faulty f.number f.place (f.refuses (length before)) f.of_form.1 none

-- ---- what is handed back, and the buffer, by the ending

module _ (before after : List ℕ) where
  kept : (o : Outcome Sized) {n place round : ℕ} → o ≡ refused n place round → after ≡ buffer_after (written o) before → after ≡ before
  unfolding written buffer_after
  kept o q w = w ∙ ap (λ (x : Outcome Sized). buffer_after (written x) before) q

  -- of refusals with 1 to 6
  of_form : {t : List ℕ} (make : Making) (x : Refusal) {c line : ℕ} → c ≤ 6 → refusal_of {A = Handed} x ≡ refused c line 0
      → (TableOf t → ⊥) → after ≡ before → Means t make (Err x) before after
  of_form make (Faulty f line) few e none k = (none, k)
  of_form make (Emptied set round) {c} few e none k = let z : 7 ≡ c = cc in absurd (omega arith)
  of_form make (TooShort needed) {c} few e none k = let z : 8 ≡ c = cc in absurd (omega arith)
  of_form make (Cells at) {c} few e none k = let z : 9 ≡ c = cc in absurd (omega arith)
  of_form make (NoSuch number) {c} few e none k = let z : 10 ≡ c = cc in absurd (omega arith)
  of_form make (Impossible set round) {c} few e none k = let z : 11 ≡ c = cc in absurd (omega arith)

  by-ending : {t : List ℕ} {make : Making} (r : Result Written Refusal) (o : Outcome Sized) → settlement_of r ≡ handed_back o
      → after ≡ buffer_after (written o) before → Ending t make o before → Means t make r before after
  unfolding written buffer_after
  by-ending {t} {make} (Err f) o e w (faulty c l q few none) = of_form make f few (e ∙ ap handed_back q) none (kept o q w)
  by-ending {t} {make} (Err f) o e w (emptied x set round q n a) =
      rw (told-emptied f (e ∙ ap handed_back q)) (record { of = x; none = n; at = a; kept = kept o q w })
  by-ending {t} {make} (Err f) o e w (lacks x p q s) =
      rw (told-short f (e ∙ ap handed_back q))
      (record { of = x; populated = p; length_needed = refl; short = s; kept = kept o q w })
  by-ending (Err f) o e w (writes x p q) = let z : ◌≡◌ {A = ℕ} 0 1 = cc in absurd (omega arith)
  by-ending (Ok v) o e w (faulty c l q few none) = let z : ◌≡◌ {A = ℕ} 0 1 = cc in absurd (omega arith)
  by-ending (Ok v) o e w (emptied x set round q n' a) = let z : ◌≡◌ {A = ℕ} 0 1 = cc in absurd (omega arith)
  by-ending (Ok v) o e w (lacks x p q s) = let z : ◌≡◌ {A = ℕ} 0 1 = cc in absurd (omega arith)
  by-ending {make = make} (Ok v) o e w (writes x p q) =
      let result : List ℕ = make x.diagram p.settled in
      let h : ◌≡◌ {A = Handed} (record { rounds = v.rounds; result_length = v.length }) (record { rounds = p.rounds; result_length = length result }) = cc in
      let en : v.length ≡ length result = ap (λ (y : Handed). y.result_length) h in
      record {
        of = x;
        populated = p;
        rounds_made = ap (λ (y : Handed). y.rounds) h;
        length_written = en;
        front = w ∙ ap (λ (y : Outcome Sized). buffer_after (written y) before) q ∙ ap (λ (m : ℕ). result ++ drop m before) (sym en);
      }

-- ---- check and populate

pub table-accepted : {t : List ℕ} (x : TableOf t) → diagram_in table_line t ≡ accepted x.diagram
table-accepted {t} x = (guarantee.accepted_tables t x.diagram).1 (x.same_table, x.well_formed)

module _ (t : List ℕ) where
  g : (x : TableOf t) → TableGuarantee t x.diagram
  g x = guarantee.of_table t x.diagram (table-accepted x)

  -- a table is that of a well-formed diagram, or of none
  of_one : (d : Diagram) → diagram_in table_line t ≡ accepted d → TableOf t
  of_one d e = let (same, form) = (guarantee.accepted_tables t d).0 e in record { diagram = d; same_table = same; well_formed = form }

  of_no : {A : Type 0} → ((x : TableOf t) → A) → ((TableOf t → ⊥) → FaultOfForm (check_call t) × FaultOfForm (populate_call t) → A) → A
  of_no {A} yes-so no-so = go (diagram_in table_line t) refl
    where
      go : (o : Outcome Diagram) → diagram_in table_line t ≡ o → A
      go (accepted d) e = yes-so (of_one d e)
      go (refused c place round) e =
          let none : (d : Diagram) → ¬ (diagram_in table_line t ≡ accepted d) = λ d q. let z : ◌≡◌ {A = ℕ} 0 1 = cc in omega arith in
          no-so (λ x. none x.diagram (table-accepted x)) (guarantee.other_tables t none)

  module _ (before : List ℕ) where
    checked : Ending t settled_sizes (check_call t (length before)) before
    checked =
        of_no
        (λ x. of-diagram t settled_sizes (check_call t) before x (g x).check_refuses (g x).otherwise (λ p. p.check_writes))
        (λ none f. of_none t settled_sizes (check_call t) before none f.0)

    populated : Ending t cells_of (populate_call t (length before)) before
    populated =
        of_no
        (λ x. of-diagram t cells_of (populate_call t) before x (g x).populate_refuses (g x).otherwise (λ p. p.populate_writes))
        (λ none f. of_none t cells_of (populate_call t) before none f.1)

  table-means : TableMeans t
  table-means = record {
    bounded = λ x. (g x).bounded;
    check = λ before after r h. by-ending before after r _ h.handed h.buffer (checked before);
    populate = λ before after r h. by-ending before after r _ h.handed h.buffer (populated before);
  }

-- ---- reading

-- How reading ends with a buffer
data ReadEnding (text : List ℕ) (o : Outcome (List ℕ)) (before : List ℕ) : Type 0 where
  faulty : (number line : ℕ) → o ≡ refused number line 0 → number ≤ 6 → (TextOf text → ⊥) → ReadEnding text o before
  lacking : (x : TextOf text) → o ≡ refused 8 (length (table x.diagram)) 0 → length before < length (table x.diagram) → ReadEnding text o before
  reading : (x : TextOf text) → o ≡ accepted (table x.diagram) → ReadEnding text o before

module _ (text before : List ℕ) where
  of-text-diagram : (d : Diagram) → diagram_in text_line text ≡ accepted d → ReadEnding text (read_call text (length before)) before
  of-text-diagram d e = by_length (dec_le (length (table d)) (length before))
    where
      x : TextOf text
      x = let (same, form) = (guarantee.accepted_texts text d).0 e in record { diagram = d; same_text = same; well_formed = form }

      by_length : Dec (length (table d) ≤ length before) → ReadEnding text (read_call text (length before)) before
      by_length (yes h) = reading x ((guarantee.of_text text d e).reads (length before) h)
      by_length (no h) = lacking x ((guarantee.of_text text d e).too_short (length before) (omega arith)) (omega arith)

  of-fault : ((d : Diagram) → ¬ (diagram_in text_line text ≡ accepted d)) → ReadEnding text (read_call text (length before)) before
  of-fault none =
      let f = guarantee.other_texts text none in
      faulty f.number f.place (f.refuses (length before)) f.of_form.1
      (λ x. none x.diagram ((guarantee.accepted_texts text x.diagram).1 (x.same_text, x.well_formed)))

  read_ending : ReadEnding text (read_call text (length before)) before
  read_ending = go (diagram_in text_line text) refl
    where
      go : (o : Outcome Diagram) → diagram_in text_line text ≡ o → ReadEnding text (read_call text (length before)) before
      go (accepted d) e = of-text-diagram d e
      go (refused c place round) e = of-fault λ d q. let z : ◌≡◌ {A = ℕ} 0 1 = cc in omega arith

module _ (text before after : List ℕ) where
  read-kept : (o : Outcome (List ℕ)) {n place round : ℕ} → o ≡ refused n place round → after ≡ buffer_after o before → after ≡ before
  unfolding buffer_after
  read-kept o q w = w ∙ ap (λ (x : Outcome (List ℕ)). buffer_after x before) q

  text_of_form : (x : Refusal) {c line : ℕ} → c ≤ 6 → refusal_of {A = ℕ} x ≡ refused c line 0 → (TextOf text → ⊥) → after ≡ before
      → ReadMeans text (Err x) before after
  text_of_form (Faulty f line) few e none k = (none, k)
  text_of_form (Emptied set round) {c} few e none k = let z : 7 ≡ c = cc in absurd (omega arith)
  text_of_form (TooShort needed) {c} few e none k = let z : 8 ≡ c = cc in absurd (omega arith)
  text_of_form (Cells at) {c} few e none k = let z : 9 ≡ c = cc in absurd (omega arith)
  text_of_form (NoSuch number) {c} few e none k = let z : 10 ≡ c = cc in absurd (omega arith)
  text_of_form (Impossible set round) {c} few e none k = let z : 11 ≡ c = cc in absurd (omega arith)

  by-read-ending : (r : Result ℕ Refusal) (o : Outcome (List ℕ)) → conversion_of r ≡ length_of o → after ≡ buffer_after o before
      → ReadEnding text o before → ReadMeans text r before after
  unfolding buffer_after
  by-read-ending (Err f) o e w (faulty c l q few none) = text_of_form f few (e ∙ ap length_of q) none (read-kept o q w)
  by-read-ending (Err f) o e w (lacking x q s) =
      rw (told-short f (e ∙ ap length_of q)) (record { of = x; length_needed = refl; short = s; kept = read-kept o q w })
  by-read-ending (Err f) o e w (reading x q) = let z : ◌≡◌ {A = ℕ} 0 1 = cc in absurd (omega arith)
  by-read-ending (Ok n) o e w (faulty c l q few none) = let z : ◌≡◌ {A = ℕ} 0 1 = cc in absurd (omega arith)
  by-read-ending (Ok n) o e w (lacking x q s) = let z : ◌≡◌ {A = ℕ} 0 1 = cc in absurd (omega arith)
  by-read-ending (Ok n) o e w (reading x q) =
      let en : n ≡ length (table x.diagram) = cc in
      record {
        of = x;
        length_read = en;
        front = w ∙ ap (λ (y : Outcome (List ℕ)). buffer_after y before) q ∙ ap (λ (m : ℕ). table x.diagram ++ drop m before) (sym en);
      }

-- ---- the theorem

pub demand_3 : Demand3
demand_3 = record {
  of_text = λ text before after r h. by-read-ending text before after r _ h.handed h.buffer (read_ending text before);
  of_table = table-means;
}
