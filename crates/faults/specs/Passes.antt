-- What the pass over types and the pass over predicates find. What is told of a type's members, and of the roles that it plays, is told only where
-- its K1 and K2 are kept; of a role K8 and K11 only where its K7 is: a lower constraint decides.
use Rattle.std.specs.Prelude.{ℕ, Bool, true, false, ◌&&◌, eqb, length}
use mathlib.Core.List.{List, ◌++◌, map, flatten}
use Rattle.counting.specs.Distinct.{distinct, within}
use Rattle.orm.specs.Diagram.{ObjectType, Predicate, Diagram, is_mandatory}
use Rattle.orm.specs.Form.{◌to◌, in_range}
use Rattle.orm.specs.Population.{Population}
use Rattle.orm.specs.Constraints.{Played, played, K1, K2, K3, K5, K6, K9, K10}
use Rattle.faults.specs.Faults.{Fault, unless, given, faults_of}

-- ---- of a role that the type with the members `ms` plays, with the values in its column

-- K7
unfoldable pub belongs : List ℕ → Played → Bool
belongs ms x = within eqb x.values ms

-- K8
unfoldable pub fills : List ℕ → Played → Bool
fills ms x = elim (is_mandatory x.role) [ true ↦ within eqb ms x.values | false ↦ true ]

-- K11
unfoldable pub limited : Played → Bool
limited x = in_range (x.role.rmin to x.role.rmax) (length (distinct eqb x.values))

-- ---- of the type with this number and the members `ms`

module _ (number : ℕ) (ms : List ℕ) where
  -- K4 of a type below it
  unfoldable pub subtype_faults : ℕ → ObjectType → List ℕ → List Fault
  subtype_faults n t vs = given (eqb t.super number) (unless (within eqb vs ms) 4 n)

  -- K7, K8 and K11 of a role that it plays, of the predicate with the number n
  unfoldable pub role_faults : ℕ → Played → List Fault
  role_faults n x =
      given (eqb x.role.type number)
      (unless (belongs ms x) 7 n ++ given (belongs ms x) (unless (fills ms x) 8 n ++ unless (limited x) 11 n))

  unfoldable pub roles_faults : ℕ → Predicate → List (List ℕ) → List Fault
  roles_faults n p rows = flatten (map (role_faults n) (played p rows))

module _ (d : Diagram) (o : Population) where
  -- Of a type whose K1 and K2 are kept: K3, K4 of those below it, K7, K8 and K11 of its roles, K10
  unfoldable pub member_faults : ℕ → ObjectType → List ℕ → List Fault
  member_faults n t ms =
      unless (K3 t ms) 3 n
      ++ faults_of (subtype_faults n ms) 1 d.types o.types
      ++ faults_of (roles_faults n ms) 1 d.preds o.preds
      ++ unless (K10 d o n t ms) 10 n

  unfoldable pub type_faults : ℕ → ObjectType → List ℕ → List Fault
  type_faults n t ms = unless (K1 t ms) 1 n ++ unless (K2 t ms) 2 n ++ given (K1 t ms && K2 t ms) (member_faults n t ms)

  unfoldable pub pred_faults : ℕ → Predicate → List (List ℕ) → List Fault
  pred_faults n p rows = unless (K5 p rows) 5 n ++ unless (K6 p rows) 6 n ++ unless (K9 p rows) 9 n

  -- All that both passes find
  unfoldable pub faults : List Fault
  faults = faults_of type_faults 1 d.types o.types ++ faults_of pred_faults 1 d.preds o.preds
