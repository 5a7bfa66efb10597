-- The proof of demand 3.
use Rattle.std.specs.Prelude.{ℕ, ◌≤◌, ◌≡◌, refl, ◌↔◌, List, length}
use Rattle.std.proofs.Common.{ap, ◌∙◌, ⊎_elim, arith}
use Rattle.orm.specs.Diagram.{Diagram, LineKind, table}
use Rattle.orm.specs.Reader.{Cut}
use Rattle.orm.specs.Text.{text_line, table_line}
use Rattle.orm.specs.Sets.{lower, upper, verdict_from}
use Rattle.orm.specs.Outcome.{Outcome, accepted, ◌>>=◌, buffer_after, length_of, written}
use Rattle.orm.specs.Calls.{diagram_in, read_call, check_call, populate_call}
use Rattle.orm.specs.WellFormed.{WellFormed}
use Rattle.orm.proofs.Laws.Rounds.{own-bounds, verdict-laws}
use Rattle.orm.proofs.Laws.Cells.{population_in-iff, validate_iff}
use Rattle.reading.specs.Laws.{text-accepted-iff, table-accepted-iff, accepted_or_fault, accepted-text-table, fits, does_not-fit}
use Rattle.sound.proofs.Laws.{valid-laws, valid-small}
use Rattle.guarantee.specs.Inside.{NoneFits}
use Rattle.guarantee.proofs.Inside.{settled-greatest, some-settled}
use Rattle.guarantee.proofs.Ends.{read-ends, check-ends, populate-ends, refuses-by, writes-made}
use Rattle.guarantee.specs.Guarantee.{NoPopulation, TextGuarantee, Populated, TableGuarantee, FaultOfForm, Guarantee}

text-guarantee : (text : List ℕ) (d : Diagram) → diagram_in text_line text ≡ accepted d → TextGuarantee text d
unfolding buffer_after
text-guarantee text d e = record {
  same_numbers = ((text-accepted-iff text d).0 e).0;
  reads = reads;
  front = λ buffer h. ap (λ o. buffer_after o buffer) (reads (length buffer) h);
  hands_back = λ space h. ap length_of (reads space h);
  too_short = λ space h. read-ends text d space e ∙ does_not-fit space (table d) h;
  accepted_again = accepted-text-table text d e;
}
  where
    reads : (space : ℕ) → length (table d) ≤ space → read_call text space ≡ accepted (table d)
    reads space h = read-ends text d space e ∙ fits space (table d) h

-- Every valid population is between the diagram's own bounds
pub none-fits : (d : Diagram) → WellFormed d → NoneFits d (lower d) (upper d) ↔ NoPopulation d
none-fits d form = (
  λ none s o. let l = valid-laws d form s o in none s o (record { above = l.above; under = l.solution.under }),
  λ none s o f. none s o,
)

module _ (t : List ℕ) (d : Diagram) (e : diagram_in table_line t ≡ accepted d) where
  seven : ¬ ◌≡◌ {A = ℕ} 7 8
  seven q = omega arith

  form : WellFormed d
  form = ((table-accepted-iff t d).0 e).1

  populated : ¬ NoPopulation d → Populated t d
  unfolding verdict_from
  populated some =
      let (n, c, v) = some-settled form (own-bounds d) (λ none. some ((none-fits d form).0 none)) in
      let g = settled-greatest form (own-bounds d) v in
      record {
        rounds = n;
        settled = c;
        settled_after = record { defined = v; meaning = (verdict-laws d).at_fixpoint v };
        check_writes = writes-made form (own-bounds d) 7 seven (check_call t) _ (check-ends t d e) v;
        populate_writes = writes-made form (own-bounds d) 7 seven (populate_call t) _ (populate-ends t d e) v;
        cells_meet = g.made.valid;
        exact = g.made.exact;
        greatest = λ s o. (valid-laws d form s o).under_fixpoint (own-bounds d) (valid-laws d form s o).solution.under v;
      }

  table-guarantee : TableGuarantee t d
  table-guarantee = record {
    bounded = λ n s o. (valid-laws d form s o).rounds n;
    check_refuses = refuses-by form (own-bounds d) 7 seven (check_call t) _ (check-ends t d e) (none-fits d form);
    populate_refuses = refuses-by form (own-bounds d) 7 seven (populate_call t) _ (populate-ends t d e) (none-fits d form);
    otherwise = populated;
    judged = λ s. validate_iff t s d e;
    cut = λ s o. (population_in-iff d s o.population).1 (o.cells_of, o.shaped);
    of_32_bits = λ s o v l. omega (arith, valid-small d form s o v l);
  }

-- A call that begins with the diagram refuses what has none
pub fault-of-form : {A : Type 0} (next : LineKind → List ℕ → Cut) (s : List ℕ) (rest : ℕ → Diagram → Outcome A)
    → ((d : Diagram) → ¬ (diagram_in next s ≡ accepted d)) → FaultOfForm (λ space. diagram_in next s >>= rest space)
fault-of-form next s rest none =
    ⊎_elim (λ (d, e). absurd (none d e))
    (λ (c, place, h, e). record { number = c; place = place; of_form = h; refuses = λ space. ap (◌>>= rest space) e })
    (accepted_or_fault next s)

pub guarantee : Guarantee
unfolding read_call check_call populate_call buffer_after written
guarantee = record {
  of_text = text-guarantee;
  of_table = table-guarantee;
  accepted_texts = text-accepted-iff;
  accepted_tables = table-accepted-iff;
  other_texts = λ text none. fault-of-form text_line text _ none;
  other_tables = λ t none. (fault-of-form table_line t _ none, fault-of-form table_line t _ none);
  refusals = λ number place round buffer. refl;
  sized_refusals = λ number place round buffer. refl;
}
