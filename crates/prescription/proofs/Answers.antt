-- How a call ends: populating's answer with 11 in place of 7, and the number that no set has.
use Prim.Native.Nat.{ℕ, ◌≤◌, ◌<◌}
use native.Mathlib.Omega.{arith}
use mathlib.Core.Path.{◌≡◌, refl}
use mathlib.Core.Bool.{Bool, true, false}
use mathlib.Core.List.{List}
use lib.Dec.{ltb}
use lib.ListN.{length, take}
use Rattle.fixpoint.specs.Limits.{Verdict, unsatisfiable, fixpoint}
use Rattle.orm.specs.Diagram.{index}
use Rattle.orm.specs.Text.{table_line}
use Rattle.orm.specs.Outcome.{Outcome, refused, accepted, ◌>>=◌, fitted, buffer_after, Sized, written}
use Rattle.orm.specs.Sets.{set_count}
use Rattle.orm.specs.Calls.{diagram_in, sizes_by, settled_into}
use Rattle.orm.specs.Prescribe.{prescribe_call}
use Rattle.orm.specs.Meaning.{Between}
use Rattle.orm.proofs.Laws.Prescribe.{is_set, no_set}
use Rattle.std.specs.Prelude.{Result, Ok, Err}
use Rattle.refusals.specs.declared.Refusal.{Refusal}
use Rattle.refusals.specs.declared.Refusal.TheVariants.{Faulty, Emptied, TooShort, Cells, NoSuch, Impossible}
use Rattle.table.specs.Positions.{diagram_of}
use Rattle.widening.specs.Answer.{acceptance_of, described, widened}
use Rattle.widening.specs.Laws.Accepts.{accepted-refused, accepted_as}
use Rattle.widening.specs.declared.Widened.{Widened}
use Rattle.bounds.specs.Answer.{Answered}
use Rattle.bounds.specs.Laws.Ends.{told-emptied, told-short, told-accepted}
use Rattle.bounds.specs.declared.Written.{Written}
use Rattle.bounds.specs.declared.Start.TheVariants.{Kept}
use Rattle.populate.specs.Answer.{cells_of, populated}
use Rattle.prescription.specs.Answer.{kept_at, numbered}

-- ---- 11 in place of 7

abbrev in_place : Result Written Refusal → Result Written Refusal
in_place (Ok w) = Ok w
in_place (Err (Faulty f line)) = Err (Faulty f line)
in_place (Err (Emptied set round)) = Err (Impossible set round)
in_place (Err (TooShort needed)) = Err (TooShort needed)
in_place (Err (Cells at)) = Err (Cells at)
in_place (Err (NoSuch number)) = Err (NoSuch number)
in_place (Err (Impossible set round)) = Err (Impossible set round)

as_it_is : (r : Result Written Refusal) → ((set round : ℕ) → ¬ (r ≡ Err (Emptied set round))) → in_place r ≡ r
as_it_is (Ok w) n = refl
as_it_is (Err (Faulty f line)) n = refl
as_it_is (Err (Emptied set round)) n = absurd (n set round refl)
as_it_is (Err (TooShort needed)) n = refl
as_it_is (Err (Cells at)) n = refl
as_it_is (Err (NoSuch number)) n = refl
as_it_is (Err (Impossible set round)) n = refl

module _ (make : List ℕ → List ℕ) {before after : List ℕ} (r : Result Written Refusal) where
  fitting : (n : ℕ) (c : List ℕ) → Answered (settled_into 7 make (fixpoint n c) (length before)) r before after
      → Answered (settled_into 11 make (fixpoint n c) (length before)) (in_place r) before after
  unfolding settled_into sizes_by fitted written buffer_after
  fitting n c h = go (ltb (length before) (length (make c))) h
    where
      then : Bool → Outcome Sized
      then b = elim b [ true ↦ refused 8 (length (make c)) 0 | false ↦ accepted (make c) ] >>= λ w. accepted (record { rounds = n; result = w })

      go : (b : Bool) → Answered (then b) r before after → Answered (then b) (in_place r) before after
      go true e = rw (told-short r e.handed) (record { handed = refl; buffer = e.buffer })
      go false e = rw (told-accepted r e.handed) (record { handed = refl; buffer = e.buffer })

  in_place_lem : (v : Verdict) → Answered (settled_into 7 make v (length before)) r before after
      → Answered (settled_into 11 make v (length before)) (in_place r) before after
  unfolding settled_into sizes_by written buffer_after
  in_place_lem (unsatisfiable s n) h = rw (told-emptied r h.handed) (record { handed = refl; buffer = h.buffer })
  in_place_lem (fixpoint n c) h = fitting n c h

-- by the arm that populating's answer matched
module _ (t : List ℕ) (number wanted : ℕ) (before : List ℕ) {after : List ℕ} {r : Result Written Refusal}
    (h : Answered (populated (Kept (index number) wanted) t (length before)) r before after) where
  kept : Answered (kept_at t (index number) wanted (length before)) (in_place r) before after
  kept = in_place_lem (cells_of (diagram_of t)) r _ h

  pub kept-impossible : {f : Refusal} {set round : ℕ} → r ≡ Err f → f ≡ Emptied set round
      → Answered (kept_at t (index number) wanted (length before)) (Err (Impossible set round)) before after
  kept-impossible p e = rw (p, e) at kept

  pub kept-other : ((set round : ℕ) → ¬ (r ≡ Err (Emptied set round)))
      → Answered (kept_at t (index number) wanted (length before)) r before after
  kept-other n = rw (as_it_is r n) at kept

-- ---- the number of a set, or of none

module _ (t : List ℕ) (number wanted : ℕ) (before : List ℕ) where
  not-numbered : ¬ Between 1 number (set_count (diagram_of t)) → Answered (numbered t number wanted (length before)) (Err (NoSuch number)) before before
  unfolding written buffer_after
  not-numbered n = rw (no_set (diagram_of t) number n) (record { handed = refl; buffer = refl })

  pub numbered-none : number ≡ 0 → Answered (numbered t number wanted (length before)) (Err (NoSuch number)) before before
  numbered-none z = not-numbered (λ b. omega (arith, b.0))

  pub numbered-past : {sets : ℕ} → sets ≡ set_count (diagram_of t) → sets < number
      → Answered (numbered t number wanted (length before)) (Err (NoSuch number)) before before
  numbered-past es l = not-numbered (λ b. omega (arith, b.1))

  pub numbered-set : {sets : ℕ} {after : List ℕ} {r : Result Written Refusal} → sets ≡ set_count (diagram_of t) → ¬ (number ≡ 0) → number ≤ sets
      → Answered (kept_at t (index number) wanted (length before)) r before after → Answered (numbered t number wanted (length before)) r before after
  numbered-set es n l h =
      let one : Between 1 number (set_count (diagram_of t)) = (omega arith, omega arith) in
      rw (is_set (diagram_of t) number one) h

pub between : {x sets n : ℕ} → sets ≡ n → ¬ (x ≡ 0) → x ≤ sets → Between 1 x n
between e n l = (omega arith, omega arith)

-- ---- any table

module _ (t b : List ℕ) (number wanted : ℕ) {r : Result Widened Refusal} {f : Refusal} (p : r ≡ Err f)
    (e : acceptance_of r ≡ described (diagram_in table_line t)) where
  pub table-refused : Answered (prescribe_call t number wanted (length b)) (Err f) b b
  unfolding prescribe_call written buffer_after
  table-refused = rw (accepted-refused t p e, prescribe_call) (record { handed = refl; buffer = refl })

module _ (t w : List ℕ) (number wanted : ℕ) {w' : List ℕ} {r : Result Widened Refusal} {v : Widened}
    (p : r ≡ Ok v) (e : acceptance_of r ≡ described (diagram_in table_line t))
    (ew : w' ≡ buffer_after (widened t) w) where
  pub table-prescribed : {o o' : List ℕ} {x : Result Written Refusal} → Answered (numbered (take v.length w') number wanted (length o)) x o o'
      → Answered (prescribe_call t number wanted (length o)) x o o'
  unfolding prescribe_call
  table-prescribed h = rw ((accepted_as t w p e ew).reads, prescribe_call) h
