-- How the calls end: their answers, and the buffers that they leave.
use Prim.Native.Nat.{ℕ, ◌≤◌, ◌<◌}
use native.Mathlib.Omega.{arith}
use mathlib.Core.Path.{◌≡◌, refl, sym, ap, ◌∙◌}
use mathlib.Core.Bool.{Bool}
use mathlib.Core.List.{List, ◌++◌}
use lib.ListN.{length, take, drop}
use lib.Seq.{length-take-le}
use Rattle.counting.proofs.Laws.Index.{at-below}
use Rattle.fixpoint.specs.Limits.{Limit, lowered, step_at, lowers_at, any_lowers}
use Rattle.fixpoint.specs.Limits as one
use Rattle.fixpoint.proofs.Laws.AnyOrder.{step_at-is, lowers_at-is}
use Rattle.orm.specs.Diagram.{all_groups}
use Rattle.orm.specs.Text.{table_line}
use Rattle.orm.specs.Sets.{upper}
use Rattle.orm.specs.Outcome.{Outcome, refused, accepted, ◌>>=◌, fitted, buffer_after}
use Rattle.orm.specs.Calls.{diagram_in}
use Rattle.orm.specs.SingleLimits.{front_of, lower_call, survey_call}
use Rattle.orm.specs.SingleLimits as single
use Rattle.orm.proofs.Laws.Bounds.{upper-sets}
use Rattle.orm.proofs.Laws.SingleLimits.{number-there, number-none, front-there, front-short}
use Rattle.reading.specs.Laws.{fits, does_not-fit}
use Rattle.refusals.specs.declared.Refusal.{Refusal}
use Rattle.refusals.specs.declared.Refusal.TheVariants.{TooShort, NoSuch}
use Rattle.buffer.specs.Written.{WroteAll}
use Rattle.buffer.specs.Laws.{wrote-whole}
use Rattle.table.specs.Positions.{diagram_of, Walkable}
use Rattle.table.specs.Laws.Valid.{valid-walkable}
use Rattle.std.specs.Prelude.{slice_get, Some, None, Result, Ok, Err}
use Rattle.std.specs.Borrow.{MutBor}
use Rattle.counting.specs.Index.{At}
use Rattle.lowering.specs.Coded.{limit_of, limits_of}
use Rattle.lowering.specs.Closed.{Within, Closed}
use Rattle.lowering.specs.Laws.Lowered.{length-lowered}
use Rattle.lowering.specs.declared.Limit as code
use Rattle.lowering.specs.declared.Limits.{Limits}
use Rattle.steps.specs.Laws.{found_past, found_at}
use Rattle.limits.specs.Prepared.{most_limits, most_operands}
use Rattle.limits.specs.Encoded.{Both, Begins}
use Rattle.limits.specs.declared.writer.Writer.{Writer}
use Rattle.propagation.specs.Answer.{Converted, Stepped, Surveyed, apply_on, lower_on, survey_on}
use Rattle.propagation.specs.Posed.{Bounded, Roomy, Posed}
use Rattle.propagation.specs.declared.Found.{Found}
use Rattle.propagation.proofs.Problems.{problem_refused, stated, limits_are}

-- ---- the bounds in the buffer

module _ (t : List ℕ) {groups sets : ℕ} (known : Bounded t groups sets) (b : List ℕ) where
  as_long : length (upper (diagram_of t)) ≡ sets
  as_long = upper-sets (diagram_of t) ∙ sym known.sets_are

  pub fit-short : length b < sets → Converted (fitted (length b) (upper (diagram_of t))) (Err (TooShort sets)) b b
  unfolding buffer_after
  fit-short h = rw (does_not-fit (length b) (upper (diagram_of t)) (omega (arith, as_long))) (record { handed = rw as_long; buffer = refl })

  pub fit-whole : {o : List ℕ} {to : ℕ} → sets ≤ length b → WroteAll b (upper (diagram_of t)) o to
      → Converted (fitted (length b) (upper (diagram_of t))) (Ok sets) b o
  unfolding buffer_after
  fit-whole h w =
      let room : length (upper (diagram_of t)) ≤ length b = omega (arith, as_long) in
      rw (fits (length b) (upper (diagram_of t)) room) (record { handed = rw as_long; buffer = wrote-whole w room })

  pub known-walkable : Walkable t
  known-walkable = valid-walkable known.valid

  pub known-few : groups ≤ 96
  known-few = omega (arith, known.groups_are, known.valid.formed.group_count)

  pub known-groups : {count : ℕ} → count ≡ groups → count ≡ length (all_groups (diagram_of t))
  known-groups e = e ∙ known.groups_are

-- ---- one limit, and any

pub front-counts : (b : List ℕ) (sets : ℕ) → sets ≤ length b → sets ≡ length (take sets b)
front-counts b sets h = sym (length-take-le sets b h)

-- the limits are closed on the part of the buffer with the bounds
pub closed-front : (l : Limits) (b : List ℕ) (sets : ℕ) → sets ≤ length b → Closed sets l → Closed (length (take sets b)) l
closed-front l b sets h w = rw (length-take-le sets b h) w

-- one
module _ (l : Limit) (sets : ℕ) (b : List ℕ) where
  pub apply_short : length b < sets → Stepped (apply_on l sets b) (Err (TooShort sets)) b b
  unfolding buffer_after
  apply_short h = rw (front-short sets b h) (record { handed = refl; buffer = refl })

  pub apply_done : {lowers : Bool} {c b' : List ℕ} → sets ≤ length b → lowers ≡ one.lowers (take sets b) l → c ≡ lowered (take sets b) l (take sets b)
      → b' ≡ c ++ drop sets b → Stepped (apply_on l sets b) (Ok (record { lowers = lowers; count = sets })) b b'
  unfolding buffer_after
  apply_done h el e eb =
      let long : length (lowered (take sets b) l (take sets b)) ≡ sets = length-lowered (take sets b) (take sets b) l ∙ length-take-le sets b h in
      rw (front-there sets b h) (record { handed = rw (el, long); buffer = rw (eb, e, long) })

pub whole-front : (ops b : List ℕ) (sets : ℕ) (l : code.Limit) → sets ≤ length b → Within sets ops l → Within (length (take sets b)) ops l
whole-front ops b sets l h w = rw (length-take-le sets b h) w

-- the one with a number
abbrev by_number : List Limit → ℕ → List ℕ → Outcome single.Stepped
by_number ls k c = accepted (record { lowers = lowers_at ls k c; result = step_at ls k c })

abbrev by_limit : Limit → List ℕ → Outcome single.Stepped
by_limit l c = accepted (record { lowers = one.lowers c l; result = lowered c l c })

module _ (l : Limits) (sets number : ℕ) (b : List ℕ) where
  pub lower-none : slice_get l.limits.now number ≡ None → Stepped (lower_on (limits_of l) sets number b) (Err (NoSuch number)) b b
  unfolding buffer_after
  lower-none p = rw (number-none (length (limits_of l)) number (found_past l number p)) (record { handed = refl; buffer = refl })

  module _ {x : code.Limit} (p : slice_get l.limits.now number ≡ Some x) where
    here : At (limit_of l.operands.now x) (limits_of l) number
    here = found_at l number p

    as_applied : (o : Outcome (List ℕ)) → (o >>= by_number (limits_of l) number) ≡ (o >>= by_limit (limit_of l.operands.now x))
    as_applied (refused c place round) = refl
    as_applied (accepted c) = rw (lowers_at-is (limits_of l) c here, step_at-is (limits_of l) c here)

    pub lower-found : {b' : List ℕ} {a : Result Found Refusal} → Stepped (apply_on (limit_of l.operands.now x) sets b) a b b'
        → Stepped (lower_on (limits_of l) sets number b) a b b'
    lower-found h = rw (number-there (length (limits_of l)) number (at-below here), as_applied (front_of sets b)) h

module _ (ls : List Limit) (sets : ℕ) (b : List ℕ) where
  pub survey-short : length b < sets → Surveyed (survey_on ls sets b) (Err (TooShort sets))
  survey-short h = record { handed = rw (front-short sets b h) }

  pub survey-done : {lowers : Bool} {count : ℕ} → sets ≤ length b → lowers ≡ any_lowers ls (take sets b) → count ≡ length ls
      → Surveyed (survey_on ls sets b) (Ok (record { lowers = lowers; count = count }))
  survey-done h el ec = record { handed = rw (front-there sets b h, el, ec) }

-- ---- of a table

module _ (t : List ℕ) {r : Result ℕ Refusal} {out : Writer} (w : Posed (diagram_in table_line t) r out) where
  module _ {f : Refusal} (p : r ≡ Err f) where
    pub lower-refused : (k : ℕ) (b : List ℕ) → Stepped (lower_call t k b) (Err f) b b
    unfolding lower_call buffer_after
    lower-refused k b = rw (problem_refused w p, lower_call) (record { handed = refl; buffer = refl })

    pub survey-refused : (b : List ℕ) → Surveyed (survey_call t b) (Err f)
    unfolding survey_call
    survey-refused b = record { handed = rw (problem_refused w p, survey_call) }

  module _ {n : ℕ} (p : r ≡ Ok n) (l : Limits) (el : l.limits.now ≡ take out.limits.at out.limits.buffer.now) (eo : l.operands.now ≡ out.operands.buffer.now) where
    pub lower-told : (k : ℕ) {b b' : List ℕ} {x : Result Found Refusal} → Stepped (lower_on (limits_of l) n k b) x b b' → Stepped (lower_call t k b) x b b'
    unfolding lower_call
    lower-told k h = rw ((stated w p).reads, lower_call, ← limits_are w p l el eo, ← (stated w p).sets_are) h

    pub survey-told : (b : List ℕ) {x : Result Found Refusal} → Surveyed (survey_on (limits_of l) n b) x → Surveyed (survey_call t b) x
    unfolding survey_call
    survey-told b h = rw ((stated w p).reads, survey_call, ← limits_are w p l el eo, ← (stated w p).sets_are) h

-- ---- room for the limits of every diagram

pub roomy_so : {codes : MutBor (List code.Limit)} {operands : MutBor (List ℕ)} {out : Writer} → Begins codes operands out → length codes.now ≡ most_limits
    → length operands.now ≡ most_operands → Roomy out
roomy_so b ec eo = record {
  limits_at = ap (λ (s : Both). s.limits.at) b.is;
  operands_at = ap (λ (s : Both). s.operands.at) b.is;
  limits_room = omega (arith, ap (λ (s : Both). length s.limits.items) b.is);
  operands_room = omega (arith, ap (λ (s : Both). length s.operands.items) b.is);
}
