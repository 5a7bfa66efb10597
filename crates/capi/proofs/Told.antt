-- What each call tells, from the contract of the function that it calls, by demand 3.
use Prim.Native.Nat.{ℕ}
use mathlib.Core.Path.{◌≡◌, ap, subst, ◌∙◌}
use mathlib.Core.List.{List}
use lib.Ieee.{Float}
use lib.ListN.{length}
use Rattle.orm.specs.Average.{Average, average_call}
use Rattle.orm.specs.Outcome.{Outcome, length_of, buffer_after, written, handed_back}
use Rattle.orm.specs.Calls.{read_call, check_call, populate_call}
use Rattle.orm.specs.Prescribe.{prescribe_call}
use Rattle.reader.specs.Answer.{conversion_of}
use Rattle.std.specs.Prelude.{Result, Ok, Err}
use Rattle.refusals.specs.declared.Refusal.{Refusal}
use Rattle.bounds.specs.Answer.{settlement_of}
use Rattle.bounds.specs.declared.Written.{Written}
use Rattle.populate.specs.Answer.{cells_of}
use Rattle.populate.specs.Demand3.{settled_sizes}
use Rattle.populate.specs.Tied.{demand_3}
use Rattle.averages.specs.Answer.{average_answer_of}
use Rattle.averages.specs.declared.AverageUse as declared
use Rattle.capi.specs.Answers.{numbers, roundless}
use Rattle.capi.specs.Ended.{Divided}
use Rattle.capi.specs.Told.{Told, ToldRead}
use Rattle.capi.specs.Prescribed.{PrescribedTold}
use Rattle.capi.specs.Prescribed.Proof.{prescribed-told}
use Rattle.capi.specs.Averaged.{AverageTold}
use Rattle.capi.specs.Averaged.Proof.{average_told}

module _ {four before after : List ℕ} where
  pub told-read : {text : List ℕ} (r : Result ℕ Refusal) → conversion_of r ≡ length_of (read_call text (length before))
      → after ≡ buffer_after (read_call text (length before)) before → four ≡ numbers (roundless (conversion_of r)) → ToldRead text four before after
  told-read {text} r e w n =
      record { answer = r; numbered = n; means = demand_3.of_text text before after r (record { handed = e; buffer = w }) }

  module _ {t : List ℕ} (r : Result Written Refusal) where
    pub told-check : settlement_of r ≡ handed_back (check_call t (length before))
        → after ≡ buffer_after (written (check_call t (length before))) before → four ≡ numbers (settlement_of r) → Told t settled_sizes four before after
    told-check e w n =
        record { answer = r; numbered = n; means = (demand_3.of_table t).check before after r (record { handed = e; buffer = w }) }

    pub told-populate : settlement_of r ≡ handed_back (populate_call t (length before))
        → after ≡ buffer_after (written (populate_call t (length before))) before → four ≡ numbers (settlement_of r) → Told t cells_of four before after
    told-populate e w n =
        record { answer = r; numbered = n; means = (demand_3.of_table t).populate before after r (record { handed = e; buffer = w }) }

  -- by S-1
  pub told_prescribe : {t : List ℕ} {number wanted : ℕ} (r : Result Written Refusal) → settlement_of r ≡ handed_back (prescribe_call t number wanted (length before))
      → after ≡ buffer_after (written (prescribe_call t number wanted (length before))) before → four ≡ numbers (settlement_of r)
      → PrescribedTold t number wanted four before after
  told_prescribe {t} {number} {wanted} r e w n = prescribed-told t number wanted (record { answer = n ∙ ap numbers e; array = w })

-- by S-14
pub told_average : {t four : List ℕ} {number : ℕ} {before after : Float} (r : Result declared.AverageUse Refusal) → average_answer_of r ≡ average_call t number
    → Divided (average_answer_of r) four before after → AverageTold t number four before after
told_average {t} {four} {number} {before} {after} r e w =
    average_told t number (subst (λ (o : Outcome Average). Divided o four before after) e w)
