-- The proof of S-13: the laws of limits in any order, at the limits and bounds of a diagram.
use Rattle.std.specs.Prelude.{ℕ, ◌≤◌, ◌<◌, ◌≡◌, ◌↔◌, List, ◌++◌, length, take}
use Rattle.std.proofs.Math.Path.{refl}
use Rattle.std.proofs.Common.{sym, ap, ◌∙◌, arith, length-append}
use Rattle.std.proofs.Math.Logic.Iff
use Rattle.std.proofs.Math.Seq.{take-append_seam}
use Rattle.fixpoint.specs.Limits.{any_lowers}
use Rattle.fixpoint.specs.Laws.{AnyOrderLaws}
use Rattle.fixpoint.proofs.Laws.{any_order-laws}
use Rattle.fixpoint.proofs.Laws.AnyOrder.{step_≼}
use Rattle.orm.specs.Diagram.{Diagram}
use Rattle.orm.specs.Text.{table_line}
use Rattle.orm.specs.Sets.{set_count, lower, upper, limits, verdict_from}
use Rattle.orm.specs.Outcome.{Outcome, refused, accepted, fitted, Sized}
use Rattle.orm.specs.Calls.{diagram_in}
use Rattle.orm.specs.SingleLimits.{front_of, start_call, lower_call, survey_call}
use Rattle.orm.specs.WellFormed.{WellFormed}
use Rattle.orm.proofs.Laws.Bounds.{upper-sets, bounds-paired}
use Rattle.orm.proofs.Laws.Rounds.{own-bounds}
use Rattle.orm.proofs.Laws.SingleLimits.{number-there, number-none, front-there, front-short}
use Rattle.reading.specs.Laws.{table-accepted-iff, fits, does_not-fit}
use Rattle.guarantee.specs.Settling.{RefusesBy}
use Rattle.guarantee.proofs.Inside.{emptied-none, none-emptied}
use Rattle.guarantee.specs.Guarantee.{NoPopulation, RefusesEmptied}
use Rattle.guarantee.proofs.Guarantee.{none-fits, fault-of-form, guarantee}
use Rattle.guarantee.specs.Sequences.{upper_after_steps, CarriedOn, SomeBelow, EndOf, OneLimit, SequencesOf, Sequences}

front : (n : ℕ) (c rest : List ℕ) → length c ≡ n → front_of n (c ++ rest) ≡ accepted c
front n c rest e =
    let h : n ≤ length (c ++ rest) = omega (arith, length-append c rest) in
    front-there n (c ++ rest) h ∙ ap accepted (ap (λ (m : ℕ). take m (c ++ rest)) (sym e) ∙ take-append_seam c rest)

module _ (t : List ℕ) (d : Diagram) (e : diagram_in table_line t ≡ accepted d) where
  form : WellFormed d
  form = ((table-accepted-iff t d).0 e).1

  laws : AnyOrderLaws (limits d) (upper d)
  laws = any_order-laws (limits d) (upper d)

  -- ---- where a sequence ends

  module _ (ks : List ℕ) (on : CarriedOn d ks) where
    none-iff : NoPopulation d ↔ SomeBelow d (upper_after_steps d ks)
    unfolding verdict_from
    none-iff =
        let iff = laws.unsatisfiable_iff ks on (lower d) (bounds-paired d) in (
          λ none. iff.0 (none-emptied form (own-bounds d) ((none-fits d form).1 none)),
          λ below. (none-fits d form).0 (emptied-none form (own-bounds d) (iff.1 below).2),
        )

    by_end : {call : ℕ → Outcome Sized} → RefusesEmptied d call → RefusesBy 7 d (lower d) (upper d) (SomeBelow d (upper_after_steps d ks)) call
    by_end r = record { exactly_when = λ space. Iff.trans (r.exactly_when space) none-iff; set_and_round = r.set_and_round }

    end_of : EndOf t d (upper_after_steps d ks)
    unfolding verdict_from
    end_of =
        let g = guarantee.of_table t d e in
        record {
          check_refuses = by_end g.check_refuses;
          populate_refuses = by_end g.populate_refuses;
          otherwise = λ above.
              let p = g.otherwise (λ none. above (none-iff.0 none)) in
              (p, ((laws.fixpoint_iff ks on (lower d) (bounds-paired d) p.settled).0 (p.rounds, p.settled_after.defined)).0);
        }

  -- ---- the calls

  one : (k : ℕ) (c rest : List ℕ) → k < length (limits d) → length c ≡ set_count d → OneLimit t d k c rest
  unfolding lower_call
  one k c rest h n = record {
    accepts = rw (e, lower_call, number-there (length (limits d)) k h, front (set_count d) c rest n) refl;
    as_many = (step_≼ (limits d) k c).sized ∙ n;
  }

  surveyed : (c rest : List ℕ) → length c ≡ set_count d
      → survey_call t (c ++ rest) ≡ accepted (record { lowers = any_lowers (limits d) c; count = length (limits d) })
  unfolding survey_call
  surveyed c rest n = rw (e, survey_call, front (set_count d) c rest n) refl

  start-ends : (space : ℕ) → start_call t space ≡ fitted space (upper d)
  unfolding start_call
  start-ends space = rw (e, start_call)

  start-short : (buffer : List ℕ) → length buffer < set_count d → start_call t (length buffer) ≡ refused 8 (set_count d) 0
  start-short buffer h =
      start-ends (length buffer) ∙ does_not-fit (length buffer) (upper d) (omega (arith, upper-sets d)) ∙ ap (λ n. refused 8 n 0) (upper-sets d)

  survey-short : (buffer : List ℕ) → length buffer < set_count d → survey_call t buffer ≡ refused 8 (set_count d) 0
  unfolding survey_call
  survey-short buffer h = rw (e, survey_call, front-short (set_count d) buffer h) refl

  lower-short : (buffer : List ℕ) → length buffer < set_count d → (k : ℕ) → k < length (limits d) → lower_call t k buffer ≡ refused 8 (set_count d) 0
  unfolding lower_call
  lower-short buffer h k l = rw (e, lower_call, number-there (length (limits d)) k l, front-short (set_count d) buffer h) refl

  lower-none : (k : ℕ) (buffer : List ℕ) → length (limits d) ≤ k → lower_call t k buffer ≡ refused 10 k 0
  unfolding lower_call
  lower-none k buffer h = rw (e, lower_call, number-none (length (limits d)) k h) refl

  sequences-of : SequencesOf t d
  sequences-of = record {
    lowers_to = laws.lowers_to;
    finite = laws.finite;
    exist = laws.exist;
    reaches = laws.reaches;
    same_end = laws.unique;
    end = end_of;
    start = λ space h. start-ends space ∙ fits space (upper d) (omega (arith, upper-sets d));
    one_limit = one;
    survey = surveyed;
    says = laws.says;
    idle = laws.idle;
    none_lowers = laws.none_lowers;
    no_limit = lower-none;
    too_short = λ buffer h. (start-short buffer h, survey-short buffer h, lower-short buffer h);
  }

pub sequences : Sequences
unfolding start_call lower_call survey_call
sequences = record {
  of_table = sequences-of;
  other_tables = λ t none. (
    fault-of-form table_line t _ none,
    λ k buffer. (fault-of-form table_line t _ none, fault-of-form table_line t _ none),
  );
}
