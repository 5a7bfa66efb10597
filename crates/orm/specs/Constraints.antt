-- The sizes of a population's sets, and the constraints K1 to K11 (document 01, 'Constraints of a population').
use Rattle.std.specs.Prelude.{ℕ, suc, Bool, true, false, eqb, length, get_or}
use Rattle.std.proofs.Math.Option.{Option, none, some}
use mathlib.Core.List.{List, [], ◌∷◌, ◌++◌, map, flatten, zip_with}
use Rattle.counting.specs.Lists.{map_from, same, column, combination}
use Rattle.counting.specs.Distinct.{all, distinct, occurrences, all_differ, within}
use Rattle.orm.specs.Diagram.{ObjectType, Role, Frequency, Predicate, Diagram, is_root, is_mandatory, must_play, index}
use Rattle.orm.specs.Supertypes.{has_range}
use Rattle.orm.specs.Form.{◌to◌, in_range}
use Rattle.orm.specs.Sets.{roles_in_group}
use Rattle.orm.specs.Population.{Population}

-- ---- what stands in the roles and groups

-- A role and the values 'in its column', one for each row
pub record Played : Type 0 where
  pub role : Role
  pub values : List ℕ

unfoldable pub played : Predicate → List (List ℕ) → List Played
played p rows = map_from (λ (j : ℕ) (r : Role). record { role = r; values = column j rows }) 0 p.roles

-- How many members it has: 'a role's members are the different values in its column'
abbrev pub member_count : Played → ℕ
member_count x = length (distinct eqb x.values)

-- A group and the combinations 'in its columns', one for each row
pub record Grouped : Type 0 where
  pub frequency : Frequency
  pub combinations : List (List ℕ)

unfoldable pub grouped : Predicate → List (List ℕ) → List Grouped
grouped p rows =
    let combinations_of : ℕ → List (List ℕ) = λ g. map (combination (roles_in_group g 0 p.roles)) rows in
    map_from (λ (g : ℕ) (f : Frequency). record { frequency = f; combinations = combinations_of g }) 1 p.groups

-- The results of a test of each type, with its number and its members, in order; of each predicate and its rows. Of lists that are not equally
-- long the rest is left out; in a population of the diagram there is none
unfoldable pub each_type : (ℕ → ObjectType → List ℕ → Bool) → ℕ → List ObjectType → List (List ℕ) → List Bool
each_type k number [] os = []
each_type k number (t ∷ ts) [] = []
each_type k number (t ∷ ts) (vs ∷ os) = k number t vs ∷ each_type k (suc number) ts os

unfoldable pub each_pred : (Predicate → List (List ℕ) → Bool) → List Predicate → List (List (List ℕ)) → List Bool
each_pred k [] os = []
each_pred k (p ∷ ps) [] = []
each_pred k (p ∷ ps) (rows ∷ os) = k p rows ∷ each_pred k ps os

-- The values in the roles that the type with this number plays
unfoldable pub values_in_roles : ℕ → List Played → List ℕ
values_in_roles number [] = []
values_in_roles number (x ∷ xs) =
    elim (eqb x.role.type number) [ true ↦ x.values ++ values_in_roles number xs | false ↦ values_in_roles number xs ]

module _ (d : Diagram) (o : Population) where
  -- All roles and all groups, in file order
  unfoldable pub all_played : List Played
  all_played = flatten (zip_with played d.preds o.preds)

  unfoldable pub all_grouped : List Grouped
  all_grouped = flatten (zip_with grouped d.preds o.preds)

  -- The size of every set, in set order: 'A type or predicate has the size its size cell says; a role's members are the different values
  -- in its column, a group's the different combinations in its columns'
  unfoldable pub sizes : List ℕ
  sizes =
      map length o.types
      ++ map length o.preds
      ++ map member_count all_played
      ++ map (λ (x : Grouped). length (distinct same x.combinations)) all_grouped

-- The members of the type with this number
unfoldable pub members_of : Population → ℕ → List ℕ
members_of o number = get_or o.types (index number) []

-- ---- the constraints: of a type (K10 with its number) and its members, of a predicate and its rows

-- 'a type's values differ'
unfoldable pub K1 : ObjectType → List ℕ → Bool
K1 t vs = all_differ eqb vs

-- 'type size MIN..MAX'
unfoldable pub K2 : ObjectType → List ℕ → Bool
K2 t vs = in_range (t.min to t.max) (length vs)

-- 'root values in FIRST..LAST', and those of a subtype that gives FIRST and LAST
unfoldable pub K3 : ObjectType → List ℕ → Bool
K3 t vs = elim (has_range t) [ true ↦ all (in_range (t.first to t.last)) vs | false ↦ true ]

-- 'subtype within supertype'
unfoldable pub K4 : Population → ObjectType → List ℕ → Bool
K4 o t vs = elim (is_root t) [ true ↦ true | false ↦ within eqb vs (members_of o t.super) ]

-- 'rows differ'
unfoldable pub K5 : Predicate → List (List ℕ) → Bool
K5 p rows = all_differ same rows

-- 'predicate size MIN..MAX'
unfoldable pub K6 : Predicate → List (List ℕ) → Bool
K6 p rows = in_range (p.min to p.max) (length rows)

-- 'each value belongs to the role's type'
unfoldable pub K7 : Population → Predicate → List (List ℕ) → Bool
K7 o p rows = all (λ (x : Played). within eqb x.values (members_of o x.role.type)) (played p rows)

-- 'mandatory: every member of the type in that role'
unfoldable pub K8 : Population → Predicate → List (List ℕ) → Bool
K8 o p rows =
    let held : Played → Bool = λ x. elim (is_mandatory x.role) [ true ↦ within eqb (members_of o x.role.type) x.values | false ↦ true ] in
    all held (played p rows)

-- 'each occurring group combination occurs FMIN..FMAX times'
unfoldable pub K9 : Predicate → List (List ℕ) → Bool
K9 p rows =
    let held : Grouped → List ℕ → Bool = λ x v.
    in_range (x.frequency.fmin to x.frequency.fmax) (occurrences same v x.combinations) in
    all (λ (x : Grouped). all (held x) x.combinations) (grouped p rows)

-- 'role members number RMIN..RMAX' (document 02, S-8)
unfoldable pub K11 : Predicate → List (List ℕ) → Bool
K11 p rows = all (λ (x : Played). in_range (x.role.rmin to x.role.rmax) (member_count x)) (played p rows)

module _ (d : Diagram) (o : Population) where
  -- 'each member of a non-independent type is in a role that type plays', but 'a non-independent subtype that plays no role is free .. of K10'
  -- (document 02, S-2)
  unfoldable pub K10 : ℕ → ObjectType → List ℕ → Bool
  K10 number t vs = elim (must_play d number t) [ true ↦ within eqb vs (values_in_roles number (all_played d o)) | false ↦ true ]

  -- Whether each type or predicate keeps K1, K2 and so on to K11: 'a type's for K1 to K4 and K10, a predicate's for K5 to K9', and for K11
  unfoldable pub constraints : List (List Bool)
  constraints =
      let of_types : (ℕ → ObjectType → List ℕ → Bool) → List Bool = λ k. each_type k 1 d.types o.types in
      let of_preds : (Predicate → List (List ℕ) → Bool) → List Bool = λ k. each_pred k d.preds o.preds in
      of_types (λ n. K1) ∷ of_types (λ n. K2) ∷ of_types (λ n. K3) ∷ of_types (λ n. K4 o)
      ∷ of_preds K5 ∷ of_preds K6 ∷ of_preds (K7 o) ∷ of_preds (K8 o) ∷ of_preds K9
      ∷ of_types K10 ∷ of_preds K11 ∷ []

-- Yes, or a K number and the number of a type or predicate: 'a type's for K1 to K4 and K10, a predicate's for K5 to K9'; 'The judge .. gives K11
-- the predicate's number'
pub data Answer : Type 0 where
  valid : Answer
  breaks : ℕ → ℕ → Answer

-- the first place, counted from `n`, that does not hold
unfoldable pub first_false : ℕ → List Bool → Option ℕ
first_false n [] = none
first_false n (true ∷ bs) = first_false (suc n) bs
first_false n (false ∷ bs) = some n

-- the constraints from K number `k` on
unfoldable pub first_broken : ℕ → List (List Bool) → Answer
first_broken k [] = valid
first_broken k (bs ∷ rest) = elim (first_false 1 bs) [ some n ↦ breaks k n | none ↦ first_broken (suc k) rest ]

-- 'The judge says yes, or the lowest broken K with the lowest number that breaks it'
unfoldable pub answer : Diagram → Population → Answer
answer d o = first_broken 1 (constraints d o)
