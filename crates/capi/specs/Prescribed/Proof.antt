-- The proof of S-1 on running code: from the contract, by `guarantee: prescribed`; and that 11 is told precisely where there is no such population.
use Rattle.std.specs.Prelude.{ℕ, ◌≤◌, ◌≡◌, ◌↔◌, List, [], ◌∷◌, length}
use Rattle.std.proofs.Math.Decide.{dec_le}
use Rattle.std.proofs.Common.{arith, subst, ⊎_elim}
use Rattle.orm.specs.Diagram.{Diagram}
use Rattle.orm.specs.Sets.{set_count}
use Rattle.orm.specs.Outcome.{refused, accepted, buffer_after, written}
use Rattle.orm.specs.Prescribe.{prescribe_call}
use Rattle.orm.specs.Meaning.{Between}
use Rattle.guarantee.proofs.Ends.{refused_or_some}
use Rattle.guarantee.specs.Prescribed.{NoneHaving, Produced, PrescribedIn}
use Rattle.guarantee.proofs.Prescribed.Proof.{prescribed}
use Rattle.populate.specs.Answer.{cells_of}
use Rattle.populate.specs.Demand3.{TableOf}
use Rattle.populate.specs.Tied.{table-accepted}
use Rattle.capi.specs.Answers.{numbers}
use Rattle.capi.specs.Accepted.{same-diagram}
use Rattle.capi.specs.Ended.{Settled, HasPrescribed}
use Rattle.capi.specs.Ended.Laws.{settled, settled-refused, table_or_fault}
use Rattle.capi.specs.Prescribed as told
use Rattle.capi.specs.Prescribed.{SetOf, PrescribedTold}

module _ (t : List ℕ) (number wanted : ℕ) {four before after : List ℕ} (has : HasPrescribed t number wanted four before after) where
  -- ---- a number of one of the sets

  module _ (of : SetOf t number) where
    abbrev d : Diagram
    d = of.table.diagram

    in_one : PrescribedIn t d number wanted
    in_one = prescribed.of_table t d (table-accepted of.table) number wanted of.among

    is-impossible : {place round : ℕ} → prescribe_call t number wanted (length before) ≡ refused 11 place round
        → PrescribedTold t number wanted four before after
    unfolding numbers buffer_after written
    is-impossible {place} {round} e =
        let w : Settled (refused 11 place round) four before after = settled e has in
        told.impossible
        (record {
          of = of;
          none = (in_one.refuses.exactly_when (length before)).0 (place, round, e);
          set = place;
          round = round;
          at = in_one.refuses.set_and_round (length before) place round e;
          answer = w.answer;
          kept = w.array;
        })

    is_possible : ¬ NoneHaving d number wanted → PrescribedTold t number wanted four before after
    unfolding numbers buffer_after written
    is_possible some = go (dec_le (length (cells_of d p.settled)) (length before))
      where
        p : Produced t d number wanted
        p = in_one.otherwise some

        go : Dec (length (cells_of d p.settled) ≤ length before) → PrescribedTold t number wanted four before after
        go (yes h) =
            let w : Settled (accepted (record { rounds = p.rounds; result = cells_of d p.settled })) four before after =
            settled (p.writes.writes (length before) h) has in
            told.written (record { of = of; produced = p; answer = w.answer; front = w.array })
        go (no h) =
            told.lacks
            (record { of = of; produced = p; short = omega arith; refused = settled-refused (p.writes.too_short (length before) (omega arith)) has })

    of-set : PrescribedTold t number wanted four before after
    of-set = ⊎_elim (λ (place, round, e). is-impossible e) is_possible (refused_or_some in_one.refuses (length before))

  -- ---- any number, any table

  of_table : TableOf t → PrescribedTold t number wanted four before after
  of_table x = go (dec_le 1 number) (dec_le number (set_count x.diagram))
    where
      none : ¬ Between 1 number (set_count x.diagram) → PrescribedTold t number wanted four before after
      none n =
          told.no_set
          (record {
            of = x;
            none = n;
            refused = settled-refused (prescribed.other_numbers t x.diagram (table-accepted x) number wanted n (length before)) has;
          })

      go : Dec (1 ≤ number) → Dec (number ≤ set_count x.diagram) → PrescribedTold t number wanted four before after
      go (yes a) (yes b) = of-set (record { table = x; among = (a, b) })
      go (yes a) (no b) = none (λ h. b h.1)
      go (no a) b = none (λ h. a h.0)

  pub prescribed-told : PrescribedTold t number wanted four before after
  prescribed-told =
      ⊎_elim of_table told.faulty
      (table_or_fault (prescribe_call t number wanted) (length before) (λ none. prescribed.other_tables t none number wanted) (λ fault line e. settled-refused e has))

abbrev pub Eleven : List ℕ → Type 0
Eleven four = (set : ℕ) × (round : ℕ) × (four ≡ 11 ∷ set ∷ round ∷ 0 ∷ [])

-- 'Refusal as impossible happens for precisely those sizes that no population of the diagram has in that set', however short the array
pub eleven-iff : {t : List ℕ} {number wanted : ℕ} {four before after : List ℕ} (x : SetOf t number) → PrescribedTold t number wanted four before after
    → Eleven four ↔ NoneHaving x.table.diagram number wanted
eleven-iff {t} {number} {wanted} {four} x = go
  where
    one : (y : TableOf t) → NoneHaving y.diagram number wanted → NoneHaving x.table.diagram number wanted
    one y = subst (λ (d : Diagram). NoneHaving d number wanted) (same-diagram y x.table)

    other : {n : ℕ} {place round length : ℕ} → four ≡ n ∷ place ∷ round ∷ length ∷ [] → ¬ (n ≡ 11) → ¬ Eleven four
    other e n (set, round, q) = n (cc)

    back : (y : TableOf t) → Produced t y.diagram number wanted → ¬ NoneHaving x.table.diagram number wanted
    back y p none = subst (λ (d : Diagram). NoneHaving d number wanted) (same-diagram x.table y) none _ p.cells_have

    go : {before after : List ℕ} → PrescribedTold t number wanted four before after → Eleven four ↔ NoneHaving x.table.diagram number wanted
    go (told.impossible i) = (λ _. one i.of.table i.none, λ _. (i.set, i.round, i.answer))
    go (told.written w) = (λ e. absurd (other w.answer (λ q. omega arith) e), λ none. absurd (back w.of.table w.produced none))
    go (told.lacks l) = (λ e. absurd (other l.refused.answer (λ q. omega arith) e), λ none. absurd (back l.of.table l.produced none))
    go (told.no_set n) =
        let impossible = n.none (subst (λ (d : Diagram). Between 1 number (set_count d)) (same-diagram x.table n.of) x.among) in
        absurd impossible
    go (told.faulty f) = absurd (f.none x.table)
