-- Both passes, and the scratch for them.
use Prim.Native.Nat.{ℕ, ◌≤◌, min}
use native.Mathlib.Omega.{arith}
use mathlib.Core.Path.{◌≡◌, refl, ap, ◌∙◌, sym}
use mathlib.Core.Bool.{Bool, true, false}
use mathlib.Core.List.{List}
use lib.Dec.{leb}
use borrow.Author.Tests.{leb-true}
use lib.ListN.{length, replicate, length-replicate}
use Rattle.orm.specs.Constraints.{answer}
use Rattle.orm.proofs.Laws.Cells.{population_in-iff}
use Rattle.faults.specs.declared.Verdict.{Verdict}
use Rattle.faults.specs.declared.Verdict.TheVariants as verdicts
use Rattle.faults.specs.Faults.{lowered, faults_of, no_entries, first_entry, answer_of}
use Rattle.faults.specs.Passes.{type_faults, pred_faults, faults}
use Rattle.faults.specs.Laws.Lowest.{lowered-then}
use Rattle.faults.specs.Laws.Answered.{first-entry-answers}
use Rattle.faults.specs.Laws.Later.{predicates-later}
use Rattle.table.specs.Positions.{diagram_of}
use Rattle.order.specs.Parts.{Scratch}
use Rattle.blocks.specs.Starts.{Populated}
use Rattle.playing.specs.Places.{population_of}
use Rattle.types.specs.Members.{Room}
use Rattle.validator.specs.Outcomes.{is_final}

module _ (t s e e₁ : List ℕ) (p : Populated t s) (z : e ≡ no_entries)
    (a : e₁ ≡ lowered (faults_of (type_faults (diagram_of t) (population_of t s)) 1 (diagram_of t).types (population_of t s).types) e) where
  pub first-is : (e₂ : List ℕ) (r : Verdict)
      → e₂ ≡ lowered (faults_of (pred_faults (diagram_of t) (population_of t s)) 1 (diagram_of t).preds (population_of t s).preds) e₁
      → answer_of r ≡ first_entry 1 11 e₂ → answer_of r ≡ answer (diagram_of t) (population_of t s)
  unfolding faults
  first-is e₂ r b q =
      q ∙ ap (first_entry 1 11) (b ∙ ap (lowered _) (a ∙ ap (lowered _) z) ∙ sym (lowered-then _ _ no_entries))
      ∙ first-entry-answers (diagram_of t) (population_of t s) p.valid.formed ((population_in-iff (diagram_of t) s (population_of t s)).0 p.whole).1

  -- one of K1 to K4 is first whatever the predicates tell
  pub first_final : (r : Verdict) {b : Bool} → b ≡ is_final r → b ≡ true → answer_of r ≡ first_entry 1 11 e₁ → answer_of r ≡ answer (diagram_of t) (population_of t s)
  unfolding is_final
  first_final (verdicts.Valid) f h q = let w : ◌≡◌ {A = ℕ} 0 1 = cc in absurd (omega arith)
  first_final (verdicts.Breaks c m) f h q =
      first-is _ (verdicts.Breaks c m) refl (sym (predicates-later (diagram_of t) (population_of t s) e₁ c m (leb-true c 4 (sym f ∙ h)) (sym q)))

pub final_valid : (r : Verdict) → r ≡ verdicts.Valid → false ≡ is_final r
unfolding is_final
final_valid r e = rw e

pub final_breaks : (r : Verdict) (c m : ℕ) → r ≡ verdicts.Breaks c m → leb c 4 ≡ is_final r
unfolding is_final
final_breaks r c m e = rw e

pub room-scratch : (s list spare : List ℕ) → Room s list spare → Scratch list spare
room-scratch s list spare r = r.scratch

-- scratch of n numbers
pub room_of : (s : List ℕ) (n : ℕ) → n ≤ 4096 → min 4096 (length s) ≤ n → Room s (replicate n 0) (replicate n 0)
room_of s n h k =
    let l : length (replicate {A = ℕ} n 0) ≡ n = length-replicate n 0 in
    record { scratch = record { few = omega arith; long = omega arith }; even = refl; enough = omega arith }
