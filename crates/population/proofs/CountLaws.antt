-- How many cells there are.
use Prim.Native.Nat.{ℕ, ◌+◌, ◌*◌, ◌≤◌}
use native.Mathlib.Nat.{mul-le-mul, suc-mul, zero-mul}
use native.Mathlib.Omega.{arith}
use mathlib.Core.Path.{◌≡◌, refl, sym, ap, ◌∙◌}
use mathlib.Core.List.{List, [], ◌∷◌, ◌++◌, map, flatten}
use lib.ListN.{length, get_or, drop, length-append}
use mir.Syntax.{w64}
use mir.Val.{Fits}
use Rattle.counting.specs.Lists.{up_from}
use Rattle.counting.proofs.Laws.Range.{length-up_from}
use Rattle.counting.proofs.Laws.Index.{length-map_from}
use Rattle.orm.specs.Diagram.{Diagram}
use Rattle.orm.specs.Sets.{Placed, placed}
use Rattle.orm.specs.Population.{cells_of_type, cells_of_pred, cells}
use Rattle.orm.specs.Supertypes.{first_value}
use Rattle.orm.specs.Populate.{size, type_values, row, rows, population}
use Rattle.table.specs.Positions.{diagram_of}
use Rattle.table.specs.Cursors.{placed_at, Here}
use Rattle.table.specs.declared.Cursor.{Cursor}
use Rattle.population.specs.Plan.{cells_at}
use Rattle.population.proofs.TypeLaws.{type_cells}
use Rattle.population.proofs.PartLaws.{role-count}
use Rattle.population.proofs.PredLaws.{pred_cells, cells_is}

-- ---- one cell more for the count

pub counted_none : {xs : List ℕ} → xs ≡ [] → 0 ≡ length xs
counted_none e = sym (ap length e)

pub counted_more : (xs ys : List ℕ) {n m : ℕ} {zs : List ℕ} → n ≡ length xs → zs ≡ xs ++ ys → m ≡ length ys → n + m ≡ length zs
counted_more xs ys e f g = omega (arith, e, g, ap length f, length-append xs ys)

-- ---- types

pub type-length : (d : Diagram) (c : List ℕ) (a : ℕ) → length (cells_of_type (type_values d c a)) ≡ 1 + get_or c a 0
unfolding cells_of_type type_values
type-length d c a = omega (arith, length-up_from (first_value d.types a) (get_or c a 0))

pub type_length_at : (d : Diagram) (c : List ℕ) (a : ℕ) {k : ℕ} → k ≡ get_or c a 0 → 1 + k ≡ length (cells_of_type (type_values d c a))
type_length_at d c a e = omega (arith, e, type-length d c a)

-- ---- predicates

rows-length : (d : Diagram) (c : List ℕ) (y : Placed) (is : List ℕ) → length (flatten (map (row d c y) is)) ≡ length is * length y.predicate.roles
unfolding flatten
rows-length d c y [] = sym (zero-mul (length y.predicate.roles))
rows-length d c y (i ∷ is) =
    let one : length (row d c y i) ≡ length y.predicate.roles = unfold row in length-map_from _ y.roles y.predicate.roles in
    omega (
      arith,
      length-append (row d c y i) (flatten (map (row d c y) is)),
      one,
      rows-length d c y is,
      suc-mul (length is)
          (length y.predicate.roles),
    )

pred-length : (d : Diagram) (c : List ℕ) (y : Placed) → length (cells_of_pred (rows d c y)) ≡ 1 + get_or c y.own 0 * length y.predicate.roles
unfolding cells_of_pred rows
pred-length d c y =
    let e : length (flatten (map (row d c y) (up_from 0 (size c y.own)))) ≡ size c y.own * length y.predicate.roles = rows-length d c y
    (up_from 0 (size c y.own)) ∙ ap (λ (n : ℕ). n * length y.predicate.roles) (length-up_from 0 (size c y.own)) in
    omega (arith, e)

pub pred_length_at : (t c : List ℕ) (x : Cursor) {k : ℕ} → k ≡ get_or c x.own 0 * get_or (drop x.at t) 2 0 → 1 + k ≡ length (cells_at t c x)
pred_length_at t c x e =
    let own : get_or c (placed_at t x).own 0 ≡ get_or c x.own 0 = unfold placed_at in refl in
    sym (pred-length (diagram_of t) c (placed_at t x) ∙ rw (e, own, role-count t x))

pub row_cells : {a b i j : ℕ} → i ≡ a → j ≡ b → i * j ≡ a * b
row_cells ei ej = rw (ei, ej)

-- at most 4096 rows, of a predicate whose roles are among the first 160 sets
module _ (t : List ℕ) (x : Cursor) (here : Here t x) {i j : ℕ} (few : i ≤ 4096) (ej : j ≡ get_or (drop x.at t) 2 0) where
  pub row_cells_few : i * j ≤ 4096 * 160
  row_cells_few = let narrow : j ≤ 160 = omega (arith, here.roles, ej) in mul-le-mul few narrow

  pub row_cells_fit : Fits w64 (i * j)
  row_cells_fit = record { fits = omega (arith, row_cells_few) }

pub cells-counted : (t c : List ℕ) {a b : ℕ} → a ≡ length (type_cells (diagram_of t) c (length (diagram_of t).types))
    → b ≡ length (pred_cells t c (placed (diagram_of t)))
    → a + b ≡ length (cells (population (diagram_of t) c))
cells-counted t c ea eb = counted_more _ _ ea (cells_is t c) eb
