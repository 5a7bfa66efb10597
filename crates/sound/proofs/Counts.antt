-- How many different values a column of some rows has, and how many different combinations some columns have.
use Prim.Native.Nat.{ℕ, ◌≤◌}
use Rattle.std.specs.Prelude.{◌≡◌, refl, Bool, length}
use Rattle.std.proofs.Math.Path.{fun_ext}
use mathlib.Core.List.Memᴰ.{head as here}
use mathlib.Core.List.Memᴰ.{tail as there}
use mathlib.Core.List.{List, [], ◌∷◌, map, map-map}
use Rattle.std.proofs.Common.{arith}
use Rattle.std.proofs.Math.Dec.{eqb}
use Rattle.std.proofs.Math.ListN.{get_or, length-map}
use Rattle.counting.specs.Lists.{same, column, combination}
use Rattle.counting.specs.Totals.{product_over}
use Rattle.counting.specs.Distinct.{distinct}
use Rattle.counting.specs.Terms.{Decides, ◌∈◌}
use Rattle.counting.proofs.Laws.Members.{map-within, map_agree, choices, in_choices, length-choices}
use Rattle.counting.proofs.Laws.Distinct.{in_distinct-map, length-distinct_le}
use Rattle.counting.proofs.Laws.Sums.{product_over-map, product_over_mono}
use Rattle.counting.proofs.Laws.Sizes.{distinct_le_length, distinct-map_le}
use Rattle.counting.proofs.Laws.Instances.{eqb_decides, same_decides}
use Rattle.counting.proofs.Laws.Index.{in_at, at_map, at-get_or}
use Rattle.orm.specs.Meaning.{Between}

-- The number of different values in column `j`
abbrev pub column_size : List (List ℕ) → ℕ → ℕ
column_size rows j = length (distinct eqb (column j rows))

-- The number of different combinations in the columns `js`
abbrev pub combination_size : List (List ℕ) → List ℕ → ℕ
combination_size rows js = length (distinct same (map (combination js) rows))

-- A number for each element of a list is at most the size of the set that the element has
pub product_le : {A : Type 0} (c : List ℕ) (f own : A → ℕ) (xs : List A) → ((a : A) → a ∈ xs → f a ≤ get_or c (own a) 0)
    → product_over f xs ≤ product_over (λ s. get_or c s 0) (map own xs)
product_le c f own xs h = rw (product_over-map (λ s. get_or c s 0) own xs) (product_over_mono f (λ a. get_or c (own a) 0) xs h)

in_positive : {A : Type 0} {a : A} {xs : List A} → a ∈ xs → 1 ≤ length xs
in_positive (here e) = omega arith
in_positive (there m) = omega arith

module _ {A : Type 0} {eq : A → A → Bool} (decides : Decides eq) where
  -- Images of between 1 and `most` elements
  pub distinct-between : {B : Type 0} (f : B → A) (xs : List B) (most : ℕ) → Between 1 (length xs) most
      → Between 1 (length (distinct eq (map f xs))) most
  distinct-between f [] most h = absurd (omega arith)
  distinct-between f (x ∷ xs) most h = (
    in_positive (in_distinct-map decides f {xs = x ∷ xs} (here refl)),
    omega
        (arith, length-distinct_le decides (map f (x ∷ xs)), length-map (x ∷ xs) f),
  )

-- `h` is told by `f`
distinct-map-by : {A B C : Type 0} {eq_b : B → B → Bool} (decides_b : Decides eq_b) {eq_c : C → C → Bool} (decides_c : Decides eq_c) (f : A → B)
    (g : B → C) {h : A → C}
    → ((a : A) → g (f a) ≡ h a) → (xs : List A) → length (distinct eq_c (map h xs)) ≤ length (distinct eq_b (map f xs))
distinct-map-by decides_b decides_c f g e xs = rw (← fun_ext e, ← map-map g f xs) (distinct-map_le decides_b decides_c g (map f xs))

pub combination_agree : (js a b : List ℕ) {j : ℕ} → combination js a ≡ combination js b → j ∈ js → get_or a j 0 ≡ get_or b j 0
unfolding combination
combination_agree js a b e m = map_agree (λ i. get_or a i 0) (λ i. get_or b i 0) e m

module _ (rows : List (List ℕ)) where
  pub column_le_rows : (j : ℕ) → column_size rows j ≤ length rows
  unfolding column
  column_le_rows j = rw (← length-map rows (λ (row : List ℕ). get_or row j 0)) (length-distinct_le eqb_decides (column j rows))

  pub column_le_combination : {j : ℕ} (js : List ℕ) → j ∈ js → column_size rows j ≤ combination_size rows js
  unfolding column combination
  column_le_combination js m =
      let p = in_at m in
      distinct-map-by same_decides eqb_decides (combination js) (λ l. get_or l p.0 0) (λ row. at-get_or 0 (at_map (λ i. get_or row i 0) p.1)) rows

  pub combination_le_product : (js : List ℕ) → combination_size rows js ≤ product_over (column_size rows) js
  unfolding column combination
  combination_le_product js =
      rw (← length-choices values js)
      (distinct_le_length same_decides (map (combination js) rows) (choices values js)
      (map-within (combination js) {xs = rows}
      (λ row m. in_choices values (λ j. get_or row j 0) js (λ j k. in_distinct-map eqb_decides (λ (r : List ℕ). get_or r j 0) m))))
    where
      values : ℕ → List ℕ
      values j = distinct eqb (column j rows)

  -- a single column
  pub combination_le_column : (j : ℕ) → combination_size rows (j ∷ []) ≤ column_size rows j
  unfolding column combination
  combination_le_column j = distinct-map-by eqb_decides same_decides (λ row. get_or row j 0) (λ v. v ∷ []) (λ row. refl) rows
