-- The row that is made from what is prepared is the row of the definition.
use Prim.Native.Nat.{ℕ, suc, ◌+◌, ◌%◌}
use native.Mathlib.Omega.{arith}
use mathlib.Core.Path.{◌≡◌, refl, sym, ap, ap₂, ◌∙◌}
use mathlib.Core.Bool.{Bool, true, false}
use mathlib.Core.List.{List, [], ◌∷◌, ◌++◌, map, map-append, flat_map, flatten, zip_with}
use lib.Dec.{eqb}
use lib.ListN.{length, get_or, length-append, length-map}
use Rattle.counting.specs.Lists.{map_from}
use Rattle.counting.proofs.Laws.Maps.{map_congr}
use Rattle.orm.specs.Diagram.{Role, Diagram, index, all_roles}
use Rattle.orm.specs.Sets.{Placed, Part, parts, select, roles_of_type, first_role}
use Rattle.orm.specs.Supertypes.{first_value}
use Rattle.orm.specs.Populate.{size, taken_before, part_tuple, parts_of_row, lookup, index_in_row, member_of, row}
use Rattle.tuples.specs.Steps.{steps, tuple_of}
use Rattle.tuples.specs.StepsLaws.{length-tuple_of, length-steps, steps-row_alone}
use Rattle.tuples.specs.Nested.{steps_of_each, tuples_in}
use Rattle.tuples.specs.NestedLaws.{each-steps, each_row_alone}
use Rattle.tuples.specs.declared.Step.{Step}
use Rattle.population.specs.Plan.{order, counts, owns, sizes_of, position, played, cell_of}
use Rattle.population.proofs.RoleLaws.{columns_from}

-- ---- looking up a role

pub lookup-position : (p : ℕ) (ss js : List ℕ) → length js ≡ length ss → lookup p ss js ≡ get_or js (position p ss) 0
unfolding lookup position
lookup-position p [] [] e = refl
lookup-position p [] (j ∷ js) e = absurd (omega arith)
lookup-position p (s ∷ ss) [] e = absurd (omega arith)
lookup-position p (s ∷ ss) (j ∷ js) e = go (eqb s p) (lookup-position p ss js (omega arith))
  where
    go : (b : Bool) → lookup p ss js ≡ get_or js (position p ss) 0
        → elim b as (λ _. ℕ) [ true ↦ j | false ↦ lookup p ss js ] ≡ get_or (j ∷ js) (elim b as (λ _. ℕ) [ true ↦ 0 | false ↦ suc (position p ss) ]) 0
    go true h = refl
    go false h = h

-- ---- the roles of a type

pub played-select : (number i : ℕ) (rs : List Role)
    → played number i (map (λ (r : Role). r.type) rs) ≡ select (λ (r : Role). eqb r.type number) i rs
unfolding played select
played-select number i [] = refl
played-select number i (r ∷ rs) = go (eqb r.type number) (played-select number (suc i) rs)
  where
    go : (b : Bool) → played number (suc i) (map (λ (r : Role). r.type) rs) ≡ select (λ (r : Role). eqb r.type number) (suc i) rs
        → ◌≡◌ {A = List ℕ} (elim b as
        (λ _. List ℕ) [
          | true ↦ i ∷ played number (suc i) (map (λ (r : Role). r.type) rs)
          | false ↦ played number (suc i)
              (map (λ (r : Role). r.type) rs)
        ])
        (elim b as (λ _. List ℕ) [
          | true ↦ i ∷ select (λ (r : Role). eqb r.type number) (suc i) rs
          | false ↦ select
              (λ (r : Role). eqb r.type number) (suc i) rs
        ])
    go true h = ap {B = List ℕ} (λ l. i ∷ l) h
    go false h = h

-- ---- a row by parts

module _ (c : List ℕ) (x : Placed) where
  abbrev pub want : Part → ℕ
  want b = size c b.own

  abbrev role_sizes : Part → List ℕ
  role_sizes b = map (size c) b.roles

  counts-are : map (λ (b : Part). length (role_sizes b)) (parts x) ≡ counts x
  unfolding counts
  counts-are = map_congr (λ (b : Part). length (role_sizes b)) (λ (b : Part). length b.roles) (parts x) (λ b m. length-map b.roles (size c))

  sizes-are : (bs : List Part) → flat_map role_sizes bs ≡ map (size c) (flat_map (λ (b : Part). b.roles) bs)
  unfolding flat_map
  sizes-are [] = refl
  sizes-are (b ∷ bs) = ap {B = List ℕ} (λ l. role_sizes b ++ l) (sizes-are bs) ∙ sym
      (map-append (size c) b.roles (flat_map (λ (b : Part). b.roles) bs))

  abbrev pub inner : List Step
  inner = steps_of_each (owns c x) (counts x) (sizes_of c (order x))

  inner-is : inner ≡ flat_map (λ (b : Part). steps (want b) (role_sizes b)) (parts x)
  unfolding owns order
  inner-is =
      ap₂ {C = List Step} (λ k s. steps_of_each (map want (parts x)) k s) (sym counts-are) (sym (sizes-are (parts x)))
      ∙ each-steps want role_sizes (parts x)

  abbrev pub outer : List Step
  outer = steps (size c x.own) (owns c x)

  pub many-parts : length (counts x) ≡ length (parts x)
  unfolding counts
  many-parts = length-map (parts x) (λ (b : Part). length b.roles)

  pub outer-long : length outer ≡ length (parts x)
  unfolding owns
  outer-long = length-steps (size c x.own) (owns c x) ∙ length-map (parts x) want

  module _ (i : ℕ) where
    parts-row : tuple_of outer i ≡ parts_of_row c (parts x) x.own i
    unfolding parts_of_row owns
    parts-row = steps-row_alone (size c x.own) (owns c x) i

    parts-long : length (parts_of_row c (parts x) x.own i) ≡ length (parts x)
    parts-long = ap length (sym parts-row) ∙ length-tuple_of outer i ∙ outer-long

    abbrev flat : List ℕ
    flat = flatten (zip_with (part_tuple c) (parts x) (parts_of_row c (parts x) x.own i))

    pub flat-is : tuples_in inner (counts x) (tuple_of outer i) ≡ flat
    unfolding part_tuple
    flat-is =
        ap₂ {C = List ℕ} (λ s k. tuples_in s k (tuple_of outer i)) inner-is (sym counts-are)
        ∙ ap (tuples_in (flat_map (λ (b : Part). steps (want b) (role_sizes b)) (parts x)) (map (λ (b : Part). length (role_sizes b)) (parts x))) parts-row
        ∙ each_row_alone want role_sizes (parts x) (parts_of_row c (parts x) x.own i) parts-long

  tuple_long : (b : Part) (j : ℕ) → length (part_tuple c b j) ≡ length b.roles
  unfolding part_tuple
  tuple_long b j =
      ap length (sym (steps-row_alone (want b) (role_sizes b) j)) ∙ length-tuple_of (steps (want b) (role_sizes b)) j
      ∙ length-steps (want b) (role_sizes b) ∙ length-map b.roles (size c)

  flat-length : (bs : List Part) (js : List ℕ) → length js ≡ length bs
      → length (flatten (zip_with (part_tuple c) bs js)) ≡ length (flat_map (λ (b : Part). b.roles) bs)
  unfolding flatten zip_with flat_map
  flat-length [] [] e = refl
  flat-length [] (j ∷ js) e = absurd (omega arith)
  flat-length (b ∷ bs) [] e = absurd (omega arith)
  flat-length (b ∷ bs) (j ∷ js) e =
      length-append (part_tuple c b j) (flatten (zip_with (part_tuple c) bs js))
      ∙ ap₂ {C = ℕ} (λ m n. m + n) (tuple_long b j) (flat-length bs js (omega arith))
      ∙ sym (length-append b.roles (flat_map (λ (b : Part). b.roles) bs))

  pub flat-long : (i : ℕ) → length (tuples_in inner (counts x) (tuple_of outer i)) ≡ length (order x)
  unfolding order
  flat-long i = ap length (flat-is i) ∙ flat-length (parts x) (parts_of_row c (parts x) x.own i) (parts-long i)

  steps-length : (bs : List Part)
      → length (flat_map (λ (b : Part). steps (want b) (role_sizes b)) bs) ≡ length (flat_map (λ (b : Part). b.roles) bs)
  unfolding flat_map
  steps-length [] = refl
  steps-length (b ∷ bs) =
      omega (
        arith,
        length-append (steps (want b) (role_sizes b)) (flat_map (λ (b : Part). steps (want b) (role_sizes b)) bs),
        length-steps (want b) (role_sizes b),
        length-map b.roles (size c),
        length-append b.roles (flat_map (λ (b : Part). b.roles) bs),
        steps-length bs,
      )

  pub inner-long : length inner ≡ length (order x)
  unfolding order
  inner-long = ap length inner-is ∙ steps-length (parts x)

-- ---- the cells of a row

module _ (d : Diagram) (c : List ℕ) (x : Placed) {types : List ℕ} (are : types ≡ map (λ (r : Role). r.type) (all_roles d)) where
  starts : (number p : ℕ) → taken_before c p (played number (first_role d) types) ≡ taken_before c p (roles_of_type d number)
  unfolding roles_of_type
  starts number p = ap (taken_before c p) (ap (played number (first_role d)) are ∙ played-select number (first_role d) (all_roles d))

  module _ (i : ℕ) where
    abbrev by_parts : List ℕ
    by_parts = tuples_in (inner c x) (counts x) (tuple_of (outer c x) i)

    place : (p : ℕ) → get_or by_parts (position p (order x)) 0 ≡ index_in_row c x i p
    unfolding index_in_row order
    place p = sym (lookup-position p (order x) by_parts (flat-long c x i)) ∙ ap (lookup p (order x)) (flat-is c x i)

    cells_are : (p : ℕ) (rs : List Role)
        → map (cell_of by_parts) (columns_from d c types (order x) p rs) ≡ map_from (λ (p : ℕ) (r : Role). member_of d c p r (index_in_row c x i p)) p rs
    unfolding map_from member_of
    cells_are p [] = refl
    cells_are p (r ∷ rs) =
        ap₂ {C = List ℕ} (λ y ys. y ∷ ys)
        (ap₂ {C = ℕ} (λ k j. first_value d.types (index r.type) + (k + j) % size c (index r.type)) (starts r.type p) (place p))
        (cells_are (suc p) rs)

    pub row-by : map (cell_of by_parts) (columns_from d c types (order x) x.roles x.predicate.roles) ≡ row d c x i
    unfolding row
    row-by = cells_are x.roles x.predicate.roles
