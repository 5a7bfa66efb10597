-- A check that accepts, by its four numbers: the sizes of the sets of the table's diagram stand at the front of the array. And a reading that does: the
-- table stands there.
use Rattle.std.specs.Prelude.{ℕ, ◌+◌, ◌≤◌, ◌<◌, ◌≡◌, List, [], ◌∷◌, length, get_or, drop, Result, Ok, Err}
use Rattle.std.proofs.Common.{arith, ap, ◌∙◌}
use Rattle.std.proofs.Math.ListN.{get_or-append}
use Rattle.counting.proofs.Laws.Index.{at-below}
use Rattle.counting.specs.Index.{At}
use Rattle.orm.specs.Diagram.{ObjectType, Role, all_roles}
use Rattle.orm.specs.Sets.{first_pred, first_role, upper}
use Rattle.orm.specs.Populate.{size}
use Rattle.orm.proofs.Laws.Bounds.{length-upper}
use Rattle.grammar.specs.Fault.{number_of}
use Rattle.grammar.specs.declared.Fault.{Fault}
use Rattle.grammar.specs.declared.Fault.TheVariants.{Malformed, OutOfRange, Unknown, Disordered, Unnamed, Miscounted}
use Rattle.reader.specs.Answer.{conversion_of}
use Rattle.bounds.specs.Answer.{settlement_of}
use Rattle.bounds.specs.declared.Written as bounds
use Rattle.refusals.specs.declared.Refusal.{Refusal}
use Rattle.refusals.specs.declared.Refusal.TheVariants as refusals
use Rattle.populate.specs.Demand3.{TableOf, Making, Means, settled_sizes, Written, ReadMeans, TableRead}
use Rattle.populate.specs.Tied.{table-accepted}
use Rattle.capi.specs.Answers.{numbers, roundless}
use Rattle.capi.specs.Told.{Told, ToldRead}

-- A table has one diagram
pub same-diagram : {t : List ℕ} (x y : TableOf t) → x.diagram ≡ y.diagram
same-diagram x y = cc (table-accepted x, table-accepted y)

faulty : (f : Fault) → 1 ≤ number_of f
faulty Malformed = omega arith
faulty OutOfRange = omega arith
faulty Unknown = omega arith
faulty Disordered = omega arith
faulty Unnamed = omega arith
faulty Miscounted = omega arith

pub told-written : {t four before after : List ℕ} {make : Making} → Told t make four before after → {rounds n : ℕ} → four ≡ 0 ∷ 0 ∷ rounds ∷ n ∷ []
    → Written t make n rounds before after
unfolding numbers
told-written {t} {four} {before} {after} {make} told {rounds} {n} e = go told.answer told.numbered told.means
  where
    go : (r : Result bounds.Written Refusal) → four ≡ numbers (settlement_of r) → Means t make r before after → Written t make n rounds before after
    go (Err (refusals.Faulty fault line)) q m = let z : number_of fault ≡ 0 = cc in absurd (omega (arith, faulty fault))
    go (Err (refusals.Emptied set round)) q m = let z : ◌≡◌ {A = ℕ} 7 0 = cc in absurd (omega arith)
    go (Err (refusals.TooShort needed)) q m = let z : ◌≡◌ {A = ℕ} 8 0 = cc in absurd (omega arith)
    go (Err (refusals.Cells at)) q m = absurd m
    go (Err (refusals.NoSuch number)) q m = absurd m
    go (Err (refusals.Impossible set round)) q m = absurd m
    go (Ok w) q m =
        let same_length : n ≡ w.length = cc in
        let same-rounds : rounds ≡ w.rounds = cc in
        rw (same_length, same-rounds) m

pub told-table : {text four before after : List ℕ} → ToldRead text four before after → {n : ℕ} → four ≡ 0 ∷ 0 ∷ 0 ∷ n ∷ [] → TableRead text n before after
unfolding numbers
told-table {text} {four} {before} {after} told {n} e = go told.answer told.numbered told.means
  where
    go : (r : Result ℕ Refusal) → four ≡ numbers (roundless (conversion_of r)) → ReadMeans text r before after → TableRead text n before after
    go (Err (refusals.Faulty fault line)) q m = let z : number_of fault ≡ 0 = cc in absurd (omega (arith, faulty fault))
    go (Err (refusals.TooShort needed)) q m = let z : ◌≡◌ {A = ℕ} 8 0 = cc in absurd (omega arith)
    go (Err (refusals.Emptied set round)) q m = absurd m
    go (Err (refusals.Cells at)) q m = absurd m
    go (Err (refusals.NoSuch number)) q m = absurd m
    go (Err (refusals.Impossible set round)) q m = absurd m
    go (Ok k) q m = let same_length : n ≡ k = cc in rw same_length m

-- The size of each set
size-written : {t : List ℕ} {n rounds : ℕ} {before after : List ℕ} (w : Written t settled_sizes n rounds before after) {i : ℕ}
    → i < length (upper w.of.diagram) → size after i ≡ size w.populated.settled i
size-written {n = n} {before = before} w {i} k =
    let c = w.populated.settled in
    let inside : i < length c = omega (arith, w.populated.settled_after.meaning.solution.under.sized) in
    ap (λ (l : List ℕ). get_or l i 0) w.front ∙ get_or-append c (drop n before) 0 i inside

-- Of a type up to a given one, and of a role
pub type-size-written : {t : List ℕ} {n rounds : ℕ} {before after : List ℕ} (w : Written t settled_sizes n rounds before after) {a : ℕ} {type : ObjectType}
    → At type w.of.diagram.types a → {i : ℕ} → i ≤ a → size after i ≡ size w.populated.settled i
type-size-written w h k = size-written w (omega (arith, length-upper w.of.diagram, at-below h))

pub role-size-written : {t : List ℕ} {n rounds : ℕ} {before after : List ℕ} (w : Written t settled_sizes n rounds before after) {k : ℕ} {r : Role}
    → At r (all_roles w.of.diagram) k → size after (first_role w.of.diagram + k) ≡ size w.populated.settled (first_role w.of.diagram + k)
unfolding first_role first_pred
role-size-written w h = size-written w (omega (arith, length-upper w.of.diagram, at-below h))
