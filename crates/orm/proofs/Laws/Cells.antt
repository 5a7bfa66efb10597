-- Cells are cut into the population whose cells they are, and the validator says yes of the valid populations.
use Rattle.std.specs.Prelude.{ℕ, zero, suc, ◌+◌, ◌*◌, ◌≡◌, refl, ◌↔◌, length, take, drop}
use Rattle.std.proofs.Common.{ap, ◌∙◌, mul-one, zero-mul, suc-mul, arith, length-drop, take-append-drop}
use mathlib.Core.List.{List, [], ◌∷◌, ◌++◌, flat_map, flatten, append_assoc, append-nil}
use Rattle.orm.specs.Diagram.{ObjectType, Predicate, Diagram}
use Rattle.orm.specs.Reader.{Reading, rejected, read, Reader, for_each, at_end}
use Rattle.orm.specs.Population.{Population, cells_of_type, cells_of_pred, cells, block, rows_of, type_block, pred_block, blocks, cutting}
use Rattle.orm.proofs.Laws.Readers.{bind_cases}
use Rattle.orm.specs.Text.{table_line}
use Rattle.orm.specs.Constraints.{valid, answer}
use Rattle.orm.specs.Meaning.{Shaped, ValidPopulation}
use Rattle.orm.specs.Outcome.{Outcome, refused, accepted, ◌>>=◌, outcome_of}
use Rattle.orm.specs.Calls.{diagram_in, population_in, validate_call}
use Rattle.orm.proofs.Laws.Shape.{block_read, cells_cut, cut-shaped}
use Rattle.orm.proofs.Laws.Decided.{valid-iff-meets}

pub rows_of-length : (k w : ℕ) (s : List ℕ) → length (rows_of k w s) ≡ k
unfolding rows_of
rows_of-length zero w s = refl
rows_of-length (suc k) w s = ap suc (rows_of-length k w (drop w s))

flatten-rows_of : (k w : ℕ) (s : List ℕ) → length s ≡ k * w → flatten (rows_of k w s) ≡ s
unfolding rows_of flatten
flatten-rows_of zero w [] e = refl
flatten-rows_of zero w (x ∷ s) e = absurd (omega (arith, e, zero-mul w))
flatten-rows_of (suc k) w s e =
    let q : length s ≡ k * w + w = e ∙ suc-mul k w in
    ap (λ (l : List ℕ). take w s ++ l) (flatten-rows_of k w (drop w s) (rw length-drop (omega arith))) ∙ take-append-drop w s

-- What a reader reads stood in front of the rest
type-front : (t : ObjectType) (n : ℕ) (s vs : List ℕ) (k : ℕ) (rest : List ℕ) → type_block t n s ≡ read vs k rest → s ≡ cells_of_type vs ++ rest
unfolding type_block cells_of_type
type-front t n s vs k rest e =
    bind_cases (block 1) _ n s e λ b i u h q.
    let z : vs ≡ b.content = cc in
    let y : u ≡ rest = cc in
    let (l, f) = block_read 1 n s h in
    rw (z, l, mul-one, ← y) f

pred-front : (p : Predicate) (n : ℕ) (s : List ℕ) (rows : List (List ℕ)) (k : ℕ) (rest : List ℕ) → pred_block p n s ≡ read rows k rest
    → s ≡ cells_of_pred rows ++ rest
unfolding pred_block cells_of_pred
pred-front p n s rows k rest e =
    let w : ℕ = length p.roles in
    bind_cases (block w) _ n s e λ b i u h q.
    let z : rows ≡ rows_of b.size w b.content = cc in
    let y : u ≡ rest = cc in
    let (l, f) = block_read w n s h in
    rw (z, rows_of-length, flatten-rows_of b.size w b.content l, ← y) f

module _ {X A : Type 0} (f : X → Reader A) (w : A → List ℕ)
    (front : (x : X) (n : ℕ) (s : List ℕ) (a : A) (k : ℕ) (rest : List ℕ) → f x n s ≡ read a k rest → s ≡ w a ++ rest) where
  for_each-front : (xs : List X) (n : ℕ) (s : List ℕ) {os : List A} {k : ℕ} {rest : List ℕ} → for_each f xs n s ≡ read os k rest
      → s ≡ flat_map w os ++ rest
  unfolding for_each flat_map
  for_each-front [] n s {os} {k} {rest} e =
      let q : os ≡ [] = cc in
      let y : s ≡ rest = cc in
      rw (q, y)
  for_each-front (x ∷ xs) n s {os} {k} {rest} e =
      bind_cases (f x) _ n s e λ a i t p e'.
      bind_cases (for_each f xs) _ i t e' λ bs j u q e''.
      let z : os ≡ a ∷ bs = cc in
      let y : u ≡ rest = cc in
      front x n s a i t p ∙ rw (z, ← y, append_assoc) (ap (w a ++◌) (for_each-front xs i t q))

at-end : (n : ℕ) (s : List ℕ) {end : Unit {0}} {k : ℕ} {rest : List ℕ} → at_end 9 n s ≡ read end k rest → s ≡ []
unfolding at_end
at-end n [] e = refl
at-end n (x ∷ s) e = let z : ◌≡◌ {A = ℕ} 0 1 = cc in absurd (omega arith)

cut_cells : (d : Diagram) (s : List ℕ) {o : Population} {n : ℕ} {rest : List ℕ} → cutting d s ≡ read o n rest → s ≡ cells o
unfolding cutting blocks cells
cut_cells d s {o} e =
    bind_cases (for_each type_block d.types) _ 0 s e λ ts i t p e'.
    bind_cases (for_each pred_block d.preds) _ i t e' λ ps j u q e''.
    bind_cases (at_end 9) _ j u e'' λ end k v r e'''.
    let z : o ≡ record { types = ts; preds = ps } = cc in
    let nothing_left : u ≡ [] = at-end j u r in
    let types-front = for_each-front type_block cells_of_type type-front d.types 0 s p in
    let preds-front = for_each-front pred_block cells_of_pred pred-front d.preds i t q in
    rw z (types-front ∙ ap (flat_map cells_of_type ts ++◌) (preds-front ∙ ap (flat_map cells_of_pred ps ++◌) nothing_left ∙ append-nil _))

-- Cells are cut into a population just where they are the cells of one of the diagram's shape
pub population_in-iff : (d : Diagram) (s : List ℕ) (o : Population) → (population_in d s ≡ accepted o) ↔ ((s ≡ cells o) × Shaped d o)
unfolding population_in outcome_of
population_in-iff d s o = (go (cutting d s) refl, λ (e, h). rw (e, cells_cut d o h, outcome_of) refl)
  where
    go : (r : Reading Population) → cutting d s ≡ r → outcome_of r ≡ accepted o → (s ≡ cells o) × Shaped d o
    go (rejected c at) e q = let z : ◌≡◌ {A = ℕ} 0 1 = cc in absurd (omega arith)
    go (read p n rest) e q =
        let same-o : o ≡ p = cc in
        rw same-o (cut_cells d s e, cut-shaped d s e)

-- The validator says yes just of the valid populations of the table's diagram
pub validate_iff : (t s : List ℕ) (d : Diagram) → diagram_in table_line t ≡ accepted d
    → (validate_call t s ≡ accepted valid) ↔ ValidPopulation d s
unfolding validate_call
validate_iff t s d e = rw (e, validate_call) (go (population_in d s) (population_in-iff d s))
  where
    go : (r : Outcome Population) → ((o : Population) → (r ≡ accepted o) ↔ ((s ≡ cells o) × Shaped d o))
        → ((r >>= λ o. accepted (answer d o)) ≡ accepted valid) ↔ ValidPopulation d s
    go (refused c place round) iff = (
      λ q. let z : ◌≡◌ {A = ℕ} 0 1 = cc in absurd (omega arith),
      λ v. let q = (iff v.population).1 (v.cells_of, v.shaped) in let z : ◌≡◌ {A = ℕ} 0 1 = cc in absurd (omega arith),
    )
    go (accepted p) iff = (
      λ q. let (c, h) = (iff p).0 refl in
          let yes : answer d p ≡ valid = cc in
          record { population = p; shaped = h; cells_of = c; meets = (valid-iff-meets d p).0 yes },
      λ v. let same-p : p ≡ v.population = cc ((iff v.population).1 (v.cells_of, v.shaped)) in
          let yes : answer d p ≡ valid = rw same-p ((valid-iff-meets d v.population).1 v.meets) in
          ap accepted yes,
    )
