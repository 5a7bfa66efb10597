-- A well-formed diagram whose population has 524,352 cells, so that no smaller number bounds them all.
use Prim.Native.Nat.{ℕ, suc, ◌+◌, ◌*◌}
use native.Mathlib.Omega.{arith}
use Rattle.std.specs.Prelude.{◌≡◌}
use Rattle.std.proofs.Math.Path.{refl, ap, ap₂}
use Rattle.std.proofs.Common.{◌∙◌}
use mathlib.Core.List.{List, [], ◌∷◌, map, flat_map, flatten, replicate}
use Rattle.std.proofs.Math.ListN.{length, length-append}
use Rattle.std.proofs.lemmas.List.{length-map}
use Rattle.counting.specs.Lists.{up_from}
use Rattle.counting.specs.Totals.{sum_over}
use Rattle.counting.proofs.Laws.Members.{each_map}
use Rattle.counting.proofs.Laws.Range.{length-up_from}
use Rattle.counting.proofs.Laws.Index.{length-map_from}
use Rattle.fixpoint.specs.Limits.{fixpoint}
use Rattle.orm.specs.Diagram.{ObjectType, Role, Predicate, Diagram}
use Rattle.orm.specs.Sets.{Placed, placed, verdict}
use Rattle.orm.specs.Population.{cells_of_type, cells_of_pred, cells}
use Rattle.orm.specs.Supertypes.{first_value}
use Rattle.orm.specs.Populate.{size, type_values, row, rows, population}
use Rattle.orm.specs.WellFormed.{WellFormed}
use Rattle.orm.proofs.Cases.All.{everything}
use Rattle.orm.proofs.Laws.Shape.{flatten-length}
use Rattle.reading.specs.Laws.{well_formed-iff-accepted}

-- ---- how many cells, by the sizes

module _ (d : Diagram) (c : List ℕ) where
  types-count : (is : List ℕ) → length (flat_map cells_of_type (map (type_values d c) is)) ≡ sum_over (λ a. suc (size c a)) is
  unfolding flat_map cells_of_type type_values sum_over
  types-count [] = refl
  types-count (a ∷ is) = omega (
    arith,
    length-append (type_values d c a) (flat_map cells_of_type (map (type_values d c) is)),
    length-up_from (first_value d.types a) (size c a),
    types-count is,
  )

  rows-count : (x : Placed) → length (flatten (rows d c x)) ≡ size c x.own * length x.predicate.roles
  unfolding rows row
  rows-count x =
      let is : List ℕ = up_from 0 (size c x.own) in
      flatten-length (length x.predicate.roles) (rows d c x) (each_map _ (row d c x) is (λ i m. length-map_from _ _ _))
      ∙ ap (λ (n : ℕ). n * length x.predicate.roles) (length-map is (row d c x) ∙ length-up_from 0 (size c x.own))

  preds-count : (xs : List Placed)
      → length (flat_map cells_of_pred (map (rows d c) xs)) ≡ sum_over (λ x. suc (size c x.own * length x.predicate.roles)) xs
  unfolding flat_map cells_of_pred sum_over
  preds-count [] = refl
  preds-count (x ∷ xs) = omega (
    arith,
    length-append (flatten (rows d c x)) (flat_map cells_of_pred (map (rows d c) xs)),
    rows-count x,
    preds-count xs,
  )

  -- Whatever the sizes
  cells_count : length (cells (population d c))
      ≡ sum_over (λ a. suc (size c a)) (up_from 0 (length d.types))
      + sum_over (λ x. suc (size c x.own * length x.predicate.roles)) (placed d)
  unfolding cells population
  cells_count =
      length-append (flat_map cells_of_type (map (type_values d c) (up_from 0 (length d.types))))
      (flat_map cells_of_pred (map (rows d c) (placed d)))
      ∙ ap₂ (λ (a b : ℕ). a + b) (types-count (up_from 0 (length d.types))) (preds-count (placed d))

-- ---- 32 independent types of up to 4,096 values, 32 predicates of three roles and up to 4,096 rows

unfoldable pub largest : Diagram
largest =
    let t : ObjectType = record { min = 1; max = 4096; first = 0; last = 4095; super = 0; indep = 1 } in
    let r : Role = record { type = 1; mand = 0; group = 0; rmin = 1; rmax = 4096 } in
    let p : Predicate = record { min = 1; max = 4096; roles = r ∷ r ∷ r ∷ []; groups = [] } in
    record { kind = 1; types = replicate 32 t; preds = replicate 32 p }

unfoldable pub largest_sizes : List ℕ
largest_sizes = replicate 160 4096

pub largest-settled : verdict largest ≡ fixpoint 1 largest_sizes
unfolding everything largest largest_sizes
largest-settled = refl

pub largest-formed : WellFormed largest
unfolding everything largest
largest-formed = (well_formed-iff-accepted largest).1 refl

pub largest-cells : length (cells (population largest largest_sizes)) ≡ 524352
largest-cells = cells_count largest largest_sizes ∙ (unfold everything largest largest_sizes in refl)
