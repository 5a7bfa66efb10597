-- Statements of each type, of each predicate and of each row, at an index.
use Rattle.std.specs.Prelude.{ℕ, suc, ◌+◌, List}
use Rattle.std.proofs.Common.{add-zero, add-suc, suc-add}
use Rattle.counting.specs.Index.{At, first, later}
use Rattle.orm.specs.Diagram.{ObjectType, Predicate}
use Rattle.orm.specs.Meaning.{EachType, EachPred}

pub each-type : (P : ℕ → ObjectType → List ℕ → Type 0) {t : ObjectType} {vs : List ℕ} (n : ℕ) {ts : List ObjectType} {os : List (List ℕ)} {i : ℕ}
    → EachType P n ts os → At t ts i → At vs os i → P (n + i) t vs
each-type P n h (first e) (first e') = rw (add-zero, e, e') h.0
each-type P n h (later a) (later b) = rw (add-suc, ← suc-add) (each-type P (suc n) h.1 a b)

pub each-pred : (P : Predicate → List (List ℕ) → Type 0)
    {p : Predicate} {rows : List (List ℕ)} {ps : List Predicate} {os : List (List (List ℕ))} {i : ℕ}
    → EachPred P ps os → At p ps i → At rows os i → P p rows
each-pred P h (first e) (first e') = rw (e, e') h.0
each-pred P h (later a) (later b) = each-pred P h.1 a b
