-- The proof of S-2 on running code: from what the contracts ensure, by the statement over the definitions.
use Rattle.std.specs.Prelude.{ℕ, suc, min, ◌≤◌, ◌≡◌, List, [], ◌∷◌, Result, Ok, Err}
use Rattle.std.proofs.Common.{le_refl, arith, ap, subst, ◌∙◌}
use Rattle.counting.proofs.Laws.Index.{each-from-at}
use Rattle.counting.specs.Index.{At}
use Rattle.fixpoint.specs.Limits.{unsatisfiable}
use Rattle.orm.specs.Diagram.{ObjectType, Diagram, index}
use Rattle.orm.specs.Sets.{upper_of_type, verdict}
use Rattle.orm.specs.Populate.{size}
use Rattle.orm.specs.WellFormed.{TypeForm}
use Rattle.guarantee.specs.Guarantee.{NoPopulation, EmptiedAt, Populated}
use Rattle.guarantee.specs.Subtypes.{FreeSubtype, RolelessRoot, TableSubtypes}
use Rattle.guarantee.proofs.Subtypes.Proof.{subtypes}
use Rattle.bounds.specs.Answer.{settlement_of}
use Rattle.bounds.specs.declared.Written as bounds
use Rattle.refusals.specs.declared.Refusal.{Refusal}
use Rattle.refusals.specs.declared.Refusal.TheVariants as refusals
use Rattle.populate.specs.Demand3.{TableOf, Making, Means, settled_sizes}
use Rattle.populate.specs.Tied.{table-accepted}
use Rattle.capi.specs.Answers.{numbers}
use Rattle.capi.specs.Told.{Told}
use Rattle.capi.specs.Accepted.{same-diagram, told-written, type-size-written}
use Rattle.capi.specs.Ended.Laws.{named}
use Rattle.capi.specs.Subtypes.{SubtypesTold}

-- ---- the diagram of a table

module _ {t : List ℕ} where
  said : (x : TableOf t) → TableSubtypes t x.diagram
  said x = subtypes.of_table t x.diagram (table-accepted x)

-- ---- check accepts

settles : {t four before after : List ℕ} (x : TableOf t) → Told t settled_sizes four before after
    → {rounds n : ℕ} → four ≡ 0 ∷ 0 ∷ rounds ∷ n ∷ [] → {a : ℕ} {type : ObjectType} → At type x.diagram.types a → FreeSubtype x.diagram (suc a) type
    → size after a ≡ min (upper_of_type type) (size after (index type.super))
settles x told e {a} {type} h f =
    let w = told-written told e in
    let d : Diagram = w.of.diagram in
    let z : x.diagram ≡ d = same-diagram x w.of in
    let standing : At type d.types a = subst (λ (y : Diagram). At type y.types a) z h in
    let above : index type.super ≤ a = omega (arith, (each-from-at (TypeForm d.types) 1 w.of.well_formed.types standing).above) in
    rw (type-size-written w standing (le_refl a), type-size-written w standing above)
    ((said w.of).settles standing (subst (λ (y : Diagram). FreeSubtype y (suc a) type) z f) w.populated)

-- ---- a root without roles

roots : {t four before after : List ℕ} {make : Making} (x : TableOf t) → Told t make four before after
    → {a : ℕ} {type : ObjectType} → At type x.diagram.types a → RolelessRoot x.diagram (suc a) type
    → (set : ℕ) × (round : ℕ) × (round ≤ 1) × (four ≡ 7 ∷ set ∷ round ∷ 0 ∷ []) × (after ≡ before)
unfolding numbers
roots {t} {four} {before} {after} {make} x told h r = go told.answer told.numbered told.means
  where
    none : NoPopulation x.diagram
    none = let (place, round, few, q) = ((said x).roots h r).0 0 in ((said x).refusal.0.exactly_when 0).0 (place, round, q)

    -- the round is that of the diagram's rounds
    at_once : {set round : ℕ} (y : TableOf t) → EmptiedAt y.diagram set round → round ≤ 1
    at_once {round = round} y e =
        let (place, k, few, q) = ((said x).roots h r).0 0 in
        let own : verdict x.diagram ≡ unsatisfiable _ k = ((said x).refusal.0.set_and_round 0 place k q).defined in
        let told-too : verdict x.diagram ≡ unsatisfiable _ round = ap verdict (same-diagram x y) ∙ e.defined in
        let z : round ≡ k = cc in
        rw z few

    populated : (y : TableOf t) → ¬ Populated t y.diagram
    populated y p = subst NoPopulation (same-diagram x y) none _ p.cells_meet

    go : (s : Result bounds.Written Refusal) → four ≡ numbers (settlement_of s) → Means t make s before after
        → (set : ℕ) × (round : ℕ) × (round ≤ 1) × (four ≡ 7 ∷ set ∷ round ∷ 0 ∷ []) × (after ≡ before)
    go (Err (refusals.Faulty fault line)) q m = absurd (m.0 x)
    go (Err (refusals.Emptied set round)) q m = (set, round, at_once m.of m.at, q, m.kept)
    go (Err (refusals.TooShort needed)) q m = absurd (populated m.of m.populated)
    go (Err (refusals.Cells at)) q m = absurd m
    go (Err (refusals.NoSuch number)) q m = absurd m
    go (Err (refusals.Impossible set round)) q m = absurd m
    go (Ok w) q m = absurd (populated m.of m.populated)

pub subtypes-told : SubtypesTold
subtypes-told = record { settles = settles; validated = λ {t} cells x has {number} e. (said x).validated cells number (named t cells has e); roots = roots }
