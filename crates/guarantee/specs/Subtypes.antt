-- S-2, 'Subtypes that have no table of their own' (document 02), as one statement over the definitions of the calls: the record `Subtypes` at the end of
-- this file, with its one proof in `proofs/Subtypes/Proof`. The request, quoted at its fields:
--
--     From now on a non-independent subtype that plays no role is free of the sum limit and of K10. A non-independent root without roles is
--     refused as before. Case P8 is kept, and the refusal theorem is over the amended constraints.
use Rattle.std.specs.Prelude.{ℕ, suc, min, ◌≤◌, ◌≡◌, Bool, true, false, not, List, [], ◌∷◌, ◌++◌, eqb}
use Rattle.counting.specs.Distinct.{within}
use Rattle.counting.specs.Terms.{◌∈◌}
use Rattle.counting.specs.Index.{At}
use Rattle.fixpoint.specs.Limits.{Limit, sum}
use Rattle.orm.specs.Diagram.{ObjectType, Diagram, is_root, is_independent, index, all_roles}
use Rattle.orm.specs.Text.{table_line}
use Rattle.orm.specs.Sets.{upper_of_type, roles_of_type, at_most, only_if, limits_of_type, limits}
use Rattle.orm.specs.Population.{Population}
use Rattle.orm.specs.Populate.{size}
use Rattle.orm.specs.Constraints.{values_in_roles, all_played, K10, breaks}
use Rattle.orm.specs.Outcome.{Outcome, refused, accepted, Sized}
use Rattle.orm.specs.Calls.{diagram_in, check_call, populate_call, validate_call}
use Rattle.orm.specs.Program.{program}
use Rattle.orm.specs.Meaning.{Plays, MustPlay}
use Rattle.orm.specs.WellFormed.{WellFormed}
use Rattle.orm.specs.Sample.{text, sample_with}
use Rattle.guarantee.specs.Guarantee.{Populated, RefusesEmptied}

-- 'a non-independent subtype that plays no role'
pub record FreeSubtype (d : Diagram) (number : ℕ) (t : ObjectType) : Type 0 where
  pub dependent : ¬ (t.indep ≡ 1)
  pub subtype : ¬ (t.super ≡ 0)
  pub roleless : ¬ Plays number (all_roles d)

-- 'A non-independent root without roles'
pub record RolelessRoot (d : Diagram) (number : ℕ) (t : ObjectType) : Type 0 where
  pub dependent : ¬ (t.indep ≡ 1)
  pub root : t.super ≡ 0
  pub roleless : ¬ Plays number (all_roles d)

-- Document 01's rule for the limits of a type, and for K10: every type that is not independent is held to both
abbrev pub limits_in01 : Diagram → ℕ → ObjectType → List Limit
limits_in01 d a t =
    only_if (not (is_root t)) (at_most a (index t.super))
    ++ only_if (not (is_independent t)) (record { target = a; most = sum (roles_of_type d (suc a)) })

abbrev pub K10In01 : Diagram → Population → ℕ → ObjectType → List ℕ → Bool
K10In01 d o number t vs = elim (is_independent t) [ true ↦ true | false ↦ within eqb vs (values_in_roles number (all_played d o)) ]

-- Refused with 7, whatever the buffer, in round 1 at the latest: the sum of no roles is 0
abbrev pub RefusesAtOnce : (ℕ → Outcome Sized) → Type 0
RefusesAtOnce call = (space : ℕ) → (place : ℕ) × (round : ℕ) × (round ≤ 1) × (call space ≡ refused 7 place round)

-- What the calls make of a table of the diagram
pub record TableSubtypes (table : List ℕ) (d : Diagram) : Type 0 where
  -- 'free of the sum limit': it settles at the smaller of its starting upper bound and its supertype's size
  pub settles : {a : ℕ} {t : ObjectType} → At t d.types a → FreeSubtype d (suc a) t → (p : Populated table d)
      → size p.settled a ≡ min (upper_of_type t) (size p.settled (index t.super))
  -- 'and of K10': with it validating names a type that must play, and no other
  pub validated : (s : List ℕ) (number : ℕ) → validate_call table s ≡ accepted (breaks 10 number)
      → (a : ℕ) × (t : ObjectType) × At t d.types a × (number ≡ suc a) × MustPlay d number t
  -- 'A non-independent root without roles is refused as before'
  pub roots : {a : ℕ} {t : ObjectType} → At t d.types a → RolelessRoot d (suc a) t
      → RefusesAtOnce (check_call table) × RefusesAtOnce (populate_call table)
  -- 'the refusal theorem is over the amended constraints': `RefusesEmptied` speaks of populations that meet them
  pub refusal : RefusesEmptied d (check_call table) × RefusesEmptied d (populate_call table)

pub record Subtypes : Type 0 where
  pub of_table : (table : List ℕ) (d : Diagram) → diagram_in table_line table ≡ accepted d → TableSubtypes table d
  -- 'a non-independent subtype that plays no role is free of the sum limit': of the diagram's limits only its supertype's is on it
  pub free_limit : {d : Diagram} → WellFormed d → {a : ℕ} {t : ObjectType} → At t d.types a → FreeSubtype d (suc a) t
      → (l : Limit) → l ∈ limits d → l.target ≡ a → l ≡ at_most a (index t.super)
  -- 'and of K10'
  pub free_K10 : {d : Diagram} {number : ℕ} {t : ObjectType} → FreeSubtype d number t → (o : Population) (vs : List ℕ)
      → K10 d o number t vs ≡ true
  -- any other type is held to both as before
  pub other_limits : (d : Diagram) (a : ℕ) (t : ObjectType) → ¬ FreeSubtype d (suc a) t → limits_of_type d a t ≡ limits_in01 d a t
  pub other_K10 : (d : Diagram) (o : Population) (number : ℕ) (t : ObjectType) (vs : List ℕ) → ¬ FreeSubtype d number t
      → K10 d o number t vs ≡ K10In01 d o number t vs
  -- 'Case P8 is kept'
  pub p8 : program (text (sample_with ("types=3" ∷ "type=1,3,1,9,0,0" ∷ "type=1,2,1,2,0,0" ∷ "type=1,5,1,5,0,0" ∷ [])))
      ≡ text ("refused=7,3,1" ∷ [])
