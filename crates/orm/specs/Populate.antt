-- The population made from a diagram and the sizes of its sets (document 01, 'Filling').
use Rattle.std.specs.Prelude.{ℕ, ◌+◌, ◌%◌, true, false, eqb, length, get_or}
use mathlib.Core.List.{List, [], ◌∷◌, map, flat_map, flatten, zip_with}
use Rattle.counting.specs.Lists.{up_from, map_from}
use Rattle.pairing.specs.Pairing.{tuples}
use Rattle.orm.specs.Diagram.{Role, Diagram, index}
use Rattle.orm.specs.Supertypes.{first_value}
use Rattle.orm.specs.Sets.{Placed, placed, Part, parts, roles_of_type}
use Rattle.orm.specs.Population.{Population}

-- ---- by index; `c` has the size of every set

module _ (c : List ℕ) where
  -- The size of a set
  abbrev pub size : ℕ → ℕ
  size s = get_or c s 0

  -- Of some roles in file order, how many members those before `p` take
  unfoldable pub taken_before : ℕ → List ℕ → ℕ
  taken_before p [] = 0
  taken_before p (s ∷ ss) = elim (eqb s p) [ true ↦ 0 | false ↦ size s + taken_before p ss ]

  -- Tuple `i` of a part, by its members' indices: 'A group pairs its roles to q', and 'a single set is taken as it is', so an ungrouped role too
  unfoldable pub part_tuple : Part → ℕ → List ℕ
  part_tuple b i = (tuples (size b.own) (map size b.roles)).row i

  -- Row `i`, by the indices of the parts' tuples: 'a predicate pairs its groups, then its ungrouped roles, to r'
  unfoldable pub parts_of_row : List Part → ℕ → ℕ → List ℕ
  parts_of_row bs r i = (tuples (size r) (map (λ (b : Part). size b.own) bs)).row i

-- What the second list has where the first has `p`
unfoldable pub lookup : ℕ → List ℕ → List ℕ → ℕ
lookup p [] js = 0
lookup p (s ∷ ss) [] = 0
lookup p (s ∷ ss) (j ∷ js) = elim (eqb s p) [ true ↦ j | false ↦ lookup p ss js ]

-- The member of the role `p` in row `i`, by its index in the role
unfoldable pub index_in_row : List ℕ → Placed → ℕ → ℕ → ℕ
index_in_row c x i p =
    lookup p (flat_map (λ (b : Part). b.roles) (parts x)) (flatten (zip_with (part_tuple c) (parts x) (parts_of_row c (parts x) x.own i)))

-- ---- by value

module _ (d : Diagram) (c : List ℕ) where
  -- 'Type: the first a values from the FIRST of its root'
  unfoldable pub type_values : ℕ → List ℕ
  type_values a = up_from (first_value d.types a) (size c a)

  -- Member `j` of the role `p`: 'Roles of one type, in file order, take its members onward from where the previous role stopped,
  -- around to the first again'
  unfoldable pub member_of : ℕ → Role → ℕ → ℕ
  member_of p r j =
      let a : ℕ = index r.type in
      first_value d.types a + (taken_before c p (roles_of_type d r.type) + j) % size c a

  -- Row `i`: 'Columns stand in role order'
  unfoldable pub row : Placed → ℕ → List ℕ
  row x i = map_from (λ (p : ℕ) (r : Role). member_of p r (index_in_row c x i p)) x.roles x.predicate.roles

  -- As many rows as the predicate's size
  unfoldable pub rows : Placed → List (List ℕ)
  rows x = map (row x) (up_from 0 (size c x.own))

  -- The whole (document 01: the rehearsal population)
  unfoldable pub population : Population
  population = record { types = map type_values (up_from 0 (length d.types)); preds = map rows (placed d) }
