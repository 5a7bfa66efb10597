-- The numbers stored for each answer are those of its outcome, and of the call that it answers.
use Prim.Native.Nat.{ℕ}
use mathlib.Core.Path.{◌≡◌, refl, ap, ◌∙◌}
use mathlib.Core.Bool.{Bool, true, false}
use mathlib.Core.List.{List, [], ◌∷◌}
use lib.Ieee.{Float}
use Rattle.counting.specs.Totals.{bit}
use Rattle.orm.specs.Average.{Average, whole, fraction}
use Rattle.orm.specs.Constraints.{Answer, valid, breaks}
use Rattle.orm.specs.Outcome.{Outcome, refused, accepted, Handed}
use Rattle.orm.specs.SingleLimits.{Found}
use Rattle.std.specs.Prelude.{Result, Ok, Err}
use Rattle.refusals.specs.declared.Refusal.{Refusal}
use Rattle.averages.specs.Answer.{average_answer_of}
use Rattle.averages.specs.declared.AverageUse as declared
use Rattle.capi.specs.Answers.{numbers, roundless, found_numbers, verdict_numbers, average_numbers, float_after}
use Rattle.capi.specs.Ended.{Divided}

-- ---- a truth value as a number

pub bit-yes : (b : Bool) → b ≡ true → 1 ≡ bit b
unfolding bit
bit-yes b e = rw e

pub bit_no : (b : Bool) → b ≡ false → 0 ≡ bit b
unfolding bit
bit_no b e = rw e

module _ {a : List ℕ} where
  -- ---- the answer is that of the call

  pub conversion_sent : (x y : Outcome ℕ) → a ≡ numbers (roundless x) → x ≡ y → a ≡ numbers (roundless y)
  conversion_sent x y e q = e ∙ ap (λ (o : Outcome ℕ). numbers (roundless o)) q

  pub handed_sent : (x y : Outcome Handed) → a ≡ numbers x → x ≡ y → a ≡ numbers y
  handed_sent x y e q = e ∙ ap numbers q

  pub found_sent : (x y : Outcome Found) → a ≡ found_numbers x → x ≡ y → a ≡ found_numbers y
  found_sent x y e q = e ∙ ap found_numbers q

  pub verdict_sent : (x y : Outcome Answer) → a ≡ verdict_numbers x → x ≡ y → a ≡ verdict_numbers y
  verdict_sent x y e q = e ∙ ap verdict_numbers q

  -- ---- an average, and the float beside the numbers

  module _ {x y : Float} where
    pub average_sent : (o o' : Outcome Average) → Divided o a x y → o ≡ o' → a ≡ average_numbers o'
    average_sent o o' d q = d.answer ∙ ap average_numbers q

    pub float_sent : (o o' : Outcome Average) → Divided o a x y → o ≡ o' → y ≡ float_after o' x
    float_sent o o' d q = d.float ∙ ap (λ (p : Outcome Average). float_after p x) q
