-- A check or a populating that refuses with 7, by its four numbers: just where the table's diagram has no population.
use Rattle.std.specs.Prelude.{ℕ, ◌≡◌, ◌↔◌, List, [], ◌∷◌, Result, Ok, Err}
use Rattle.std.proofs.Common.{arith, subst}
use Rattle.guarantee.specs.Guarantee.{NoPopulation, Populated}
use Rattle.grammar.specs.Fault.{number_of}
use Rattle.grammar.specs.Laws.Faults.{few-faults}
use Rattle.bounds.specs.Answer.{settlement_of}
use Rattle.bounds.specs.declared.Written as bounds
use Rattle.refusals.specs.declared.Refusal.{Refusal}
use Rattle.refusals.specs.declared.Refusal.TheVariants as refusals
use Rattle.populate.specs.Demand3.{TableOf, Emptied, Making, Means}
use Rattle.capi.specs.Answers.{numbers}
use Rattle.capi.specs.Told.{Told}
use Rattle.capi.specs.Accepted.{same-diagram}

-- what 7 tells
told-emptied : {t four before after : List ℕ} {make : Making} → Told t make four before after → {set round : ℕ} → four ≡ 7 ∷ set ∷ round ∷ 0 ∷ []
    → Emptied t set round before after
unfolding numbers
told-emptied {t} {four} {before} {after} {make} told {set} {round} e = go told.answer told.numbered told.means
  where
    go : (r : Result bounds.Written Refusal) → four ≡ numbers (settlement_of r) → Means t make r before after → Emptied t set round before after
    go (Err (refusals.Faulty fault line)) q m = let z : number_of fault ≡ 7 = cc in absurd (omega (arith, few-faults fault))
    go (Err (refusals.Emptied s k)) q m =
        let same_set : set ≡ s = cc in
        let same-round : round ≡ k = cc in
        rw (same_set, same-round) m
    go (Err (refusals.TooShort needed)) q m = let z : ◌≡◌ {A = ℕ} 8 7 = cc in absurd (omega arith)
    go (Err (refusals.Cells at)) q m = absurd m
    go (Err (refusals.NoSuch number)) q m = absurd m
    go (Err (refusals.Impossible s k)) q m = absurd m
    go (Ok w) q m = let z : ◌≡◌ {A = ℕ} 0 7 = cc in absurd (omega arith)

pub emptied : {t four before after : List ℕ} {make : Making} (x : TableOf t) → Told t make four before after
    → ((set : ℕ) × (round : ℕ) × (four ≡ 7 ∷ set ∷ round ∷ 0 ∷ [])) ↔ NoPopulation x.diagram
unfolding numbers
emptied {t} {four} {before} {after} {make} x told = (
  λ (set, round, e). subst NoPopulation (same-diagram (told-emptied told e).of x) (told-emptied told e).none,
  λ none. go none told.answer told.numbered told.means,
)
  where
    populated : NoPopulation x.diagram → (y : TableOf t) → ¬ Populated t y.diagram
    populated none y p = subst NoPopulation (same-diagram x y) none _ p.cells_meet

    go : NoPopulation x.diagram → (s : Result bounds.Written Refusal) → four ≡ numbers (settlement_of s) → Means t make s before after
        → (set : ℕ) × (round : ℕ) × (four ≡ 7 ∷ set ∷ round ∷ 0 ∷ [])
    go none (Err (refusals.Faulty fault line)) q m = absurd (m.0 x)
    go none (Err (refusals.Emptied set round)) q m = (set, round, q)
    go none (Err (refusals.TooShort needed)) q m = absurd (populated none m.of m.populated)
    go none (Err (refusals.Cells at)) q m = absurd m
    go none (Err (refusals.NoSuch number)) q m = absurd m
    go none (Err (refusals.Impossible set round)) q m = absurd m
    go none (Ok w) q m = absurd (populated none m.of m.populated)
