-- How many cells a valid population of a well-formed diagram has at most: for 32 types and 32 predicates a size cell each, for each type 4,096
-- values, and for each of 96 roles 4,096 values, which come to 524,352.
use Rattle.std.specs.Prelude.{ℕ, suc, ◌+◌, ◌*◌, ◌≤◌, ◌≡◌, refl, Bool, true, false, ltb}
use Rattle.std.proofs.Common.{mul-le-mul, le_refl, ◌∙◌, ⊎_elim}
use native.Mathlib.Omega.{arith}
use Rattle.std.proofs.Math.Path.{ap}
use mathlib.Core.List.Memᴰ.{head as here}
use mathlib.Core.List.Memᴰ.{tail as there}
use mathlib.Core.List.{List, [], ◌∷◌, flat_map, flatten}
use Rattle.std.proofs.Math.ListN.{length, length-append}
use Rattle.counting.specs.Terms.{Each, EachFrom, Each2}
use Rattle.fixpoint.specs.Limits.{Verdict, unsatisfiable, fixpoint}
use Rattle.orm.specs.Diagram.{ObjectType, Predicate, Diagram, all_roles}
use Rattle.orm.specs.Text.{table_line}
use Rattle.orm.specs.Sets.{verdict}
use Rattle.orm.specs.Population.{Population, cells_of_type, cells_of_pred, cells}
use Rattle.orm.specs.Populate.{population}
use Rattle.orm.specs.Outcome.{Outcome, refused, accepted, ◌>>=◌, fitted, Sized}
use Rattle.orm.specs.Calls.{diagram_in, populate_call}
use Rattle.orm.specs.Meaning.{M2, M6, EachType, EachPred, Rows, ValidPopulation}
use Rattle.orm.specs.WellFormed.{TypeForm, PredForm, WellFormed}
use Rattle.orm.proofs.Laws.Shape.{flatten-length}
use Rattle.reading.specs.Laws.{table-accepted-iff, accepted_or_fault}
use Rattle.complete.proofs.Laws.{population-laws, fixpoint-solved}
use Rattle.orm.proofs.Laws.Rounds.{own-bounds}
use Rattle.guarantee.proofs.Ends.{populate-ends, settled-unsatisfiable, settled-fixpoint}
use Rattle.guarantee.specs.Settling.{sized}

-- a size cell and at most 4,096 values for each type
type-cells : (us : List ObjectType) (n : ℕ) (ts : List ObjectType) (os : List (List ℕ)) → length os ≡ length ts → EachFrom (TypeForm us) n ts
    → EachType M2 n ts os → length (flat_map cells_of_type os) ≤ 4097 * length ts
unfolding flat_map cells_of_type
type-cells us n [] [] e f m = omega arith
type-cells us n [] (vs ∷ os) e f m = absurd (omega arith)
type-cells us n (t ∷ ts) [] e f m = absurd (omega arith)
type-cells us n (t ∷ ts) (vs ∷ os) e f m = omega (
  arith,
  length-append vs (flat_map cells_of_type os),
  f.0.most,
  m.0.1,
  type-cells us (suc n) ts os (omega arith) f.1 m.1,
)

-- at most 4,096 values for each role
row-cells : (types : ℕ) (p : Predicate) (rows : List (List ℕ)) → PredForm types p → M6 p rows → Rows p rows
    → length (flatten rows) ≤ 4096 * length p.roles
row-cells types p rows f m w =
    let few : length rows ≤ 4096 = omega (arith, f.most, m.1) in
    let all : length rows * length p.roles ≤ 4096 * length p.roles = mul-le-mul few (le_refl (length p.roles)) in
    omega (arith, flatten-length (length p.roles) rows w)

pred-cells : (types : ℕ) (ps : List Predicate) (os : List (List (List ℕ))) → Each (PredForm types) ps → EachPred M6 ps os → Each2 Rows ps os
    → length (flat_map cells_of_pred os) ≤ length ps + 4096 * length (flat_map (λ (p : Predicate). p.roles) ps)
unfolding flat_map cells_of_pred
pred-cells types [] [] f m w = omega arith
pred-cells types [] (rows ∷ os) f m w = absurd w
pred-cells types (p ∷ ps) [] f m w = absurd w
pred-cells types (p ∷ ps) (rows ∷ os) f m w = omega (
  arith,
  length-append (flatten rows) (flat_map cells_of_pred os),
  length-append p.roles (flat_map (λ (p : Predicate). p.roles) ps),
  row-cells types p rows (f p (here refl)) m.0 w.0,
  pred-cells types ps os (λ a l. f a (there l)) m.1 w.1,
)

module _ (d : Diagram) (form : WellFormed d) where
  -- Of every valid population: 'Cells, 32 bits each: per type, its size and values; per predicate, its size and rows'
  pub valid-cells-at-most : {s : List ℕ} → ValidPopulation d s → length s ≤ 524352
  unfolding cells all_roles
  valid-cells-at-most v =
      let o : Population = v.population in
      omega (
        arith,
        ap length v.cells_of,
        length-append (flat_map cells_of_type o.types) (flat_map cells_of_pred o.preds),
        type-cells d.types 1 d.types o.types v.shaped.types form.types v.meets.k2,
        pred-cells (length d.types) d.preds o.preds form.preds v.meets.k6 v.shaped.preds,
        form.type_count.1,
        form.pred_count.1,
        form.role_count,
      )

  -- Of the population made from the settled sizes: 'the fill the cells'
  pub cells-at-most : {n : ℕ} {c : List ℕ} → verdict d ≡ fixpoint n c → length (cells (population d c)) ≤ 524352
  cells-at-most {n} {c} e = valid-cells-at-most (population-laws d c (fixpoint-solved form (own-bounds d) e)).valid

-- The length of what a call hands back, or the length that refusal 8 asks for
abbrev pub LengthAtMost : ℕ → Outcome Sized → Type 0
LengthAtMost b (refused c place round) = c ≡ 8 → place ≤ b
LengthAtMost b (accepted s) = length s.result ≤ b

fitted-at-most : (b n space : ℕ) (r : List ℕ) → length r ≤ b → LengthAtMost b (fitted space r >>= sized n)
unfolding fitted
fitted-at-most b n space r h = go (ltb space (length r))
  where
    go : (t : Bool) → LengthAtMost b (elim t as (λ _. Outcome (List ℕ)) [ true ↦ refused 8 (length r) 0 | false ↦ accepted r ] >>= sized n)
    go true = λ e. h
    go false = h

-- 8 'lent space shorter than the result', at the 'length needed': of populating, whatever the table and the buffer
pub populate-at-most : (t : List ℕ) (space : ℕ) → LengthAtMost 524352 (populate_call t space)
unfolding populate_call
populate-at-most t space =
    ⊎_elim (λ (d, e). settled d e (verdict d) refl) (λ (c, place, h, e). rw (e, populate_call) (λ q. absurd (omega arith)))
    (accepted_or_fault table_line t)
  where
    settled : (d : Diagram) → diagram_in table_line t ≡ accepted d → (v : Verdict) → verdict d ≡ v
        → LengthAtMost 524352 (populate_call t space)
    settled d e (unsatisfiable s n) v =
        rw (populate-ends t d e space ∙ settled-unsatisfiable _ _ space v) (λ q. absurd (omega arith))
    settled d e (fixpoint n c) v =
        rw (populate-ends t d e space ∙ settled-fixpoint _ _ space v)
        (fitted-at-most 524352 n space (cells (population d c)) (cells-at-most d ((table-accepted-iff t d).0 e).1 v))
