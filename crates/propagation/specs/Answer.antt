-- What the calls hand back, and what they leave in the buffer, in document 02's words.
use Rattle.std.specs.Prelude.{ℕ, ◌≡◌, List, length, Result, Ok, Err}
use Rattle.fixpoint.specs.Limits.{Limit, lowered, lowers, step_at, lowers_at, any_lowers}
use Rattle.orm.specs.Outcome.{Outcome, accepted, ◌>>=◌, length_of, buffer_after}
use Rattle.orm.specs.SingleLimits.{found_of, bounds_of, numbered, front_of}
use Rattle.orm.specs.SingleLimits as single
use Rattle.refusals.specs.Refusal.{refusal_of}
use Rattle.refusals.specs.declared.Refusal.{Refusal}
use Rattle.reader.specs.Answer.{conversion_of}
use Rattle.propagation.specs.declared.Found.{Found}

-- Of each answer the refusal's number, place and round; or whether a limit lowers a bound, and the count
abbrev pub propagation_of : Result Found Refusal → Outcome single.Found
propagation_of (Ok f) = accepted (record { lowers = f.lowers; count = f.count })
propagation_of (Err r) = refusal_of r

-- The answer hands back what the outcome does, and the buffer is as it should be
pub record Converted (o : Outcome (List ℕ)) (r : Result ℕ Refusal) (before after : List ℕ) : Type 0 where
  pub handed : conversion_of r ≡ length_of o
  pub buffer : after ≡ buffer_after o before

pub record Stepped (o : Outcome single.Stepped) (r : Result Found Refusal) (before after : List ℕ) : Type 0 where
  pub handed : propagation_of r ≡ found_of o
  pub buffer : after ≡ buffer_after (bounds_of o) before

pub record Surveyed (o : Outcome single.Found) (r : Result Found Refusal) : Type 0 where
  pub handed : propagation_of r ≡ o

-- A limit put to use on the bounds of so many sets; and the one with this number, of these
abbrev pub apply_on : Limit → ℕ → List ℕ → Outcome single.Stepped
apply_on l sets buffer = front_of sets buffer >>= λ c. accepted (record { lowers = lowers c l; result = lowered c l c })

abbrev pub lower_on : List Limit → ℕ → ℕ → List ℕ → Outcome single.Stepped
lower_on ls sets k buffer =
    numbered (length ls) k >>= λ number.
    front_of sets buffer >>= λ c. accepted (record { lowers = lowers_at ls number c; result = step_at ls number c })

-- Whether any of these limits lowers a bound
abbrev pub survey_on : List Limit → ℕ → List ℕ → Outcome single.Found
survey_on ls sets buffer = front_of sets buffer >>= λ c. accepted (record { lowers = any_lowers ls c; count = length ls })
