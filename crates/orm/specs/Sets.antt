-- The sets of a diagram, their lower and starting upper bounds and their limits (document 01, 'Sets, floors, ceilings').
-- Document 01 counts sets from 1; here a set is its index in a list of sizes, from 0.
use Rattle.std.specs.Prelude.{ℕ, suc, ◌+◌, ◌-◌, min, Bool, true, false, not, eqb, length}
use mathlib.Core.List.{List, [], ◌∷◌, ◌++◌, map, flat_map, flatten}
use Rattle.counting.specs.Lists.{up_from, map_from}
use Rattle.fixpoint.specs.Limits.{Limit, product, sum, times, quotient, Verdict, run, upper_after, slack}
use Rattle.orm.specs.Diagram.{ObjectType, Role, Frequency, Predicate, Diagram, is_root, is_mandatory, is_grouped, must_play, index, all_roles, all_groups}
use Rattle.orm.specs.Supertypes.{has_range}

-- 'Sets count from 1: types, predicates, roles, groups, each in file order'
unfoldable pub first_pred : Diagram → ℕ
first_pred d = length d.types

unfoldable pub first_role : Diagram → ℕ
first_role d = first_pred d + length d.preds

unfoldable pub first_group : Diagram → ℕ
first_group d = first_role d + length (all_roles d)

-- How many sets there are
unfoldable pub set_count : Diagram → ℕ
set_count d = first_group d + length (all_groups d)

-- Lower bounds (document 01: floors): 'MIN for types and predicates, else 1', and RMIN is 'the role's floor'
unfoldable pub lower : Diagram → List ℕ
lower d =
    map (λ (t : ObjectType). t.min) d.types
    ++ map (λ (p : Predicate). p.min) d.preds
    ++ map (λ (r : Role). r.rmin) (all_roles d)
    ++ map (λ (f : Frequency). 1) (all_groups d)

-- 'root, the smaller of MAX and LAST - FIRST + 1; subtype and predicate, MAX; role and group, 4096', and where a subtype gives FIRST and LAST
-- its starting ceiling 'is then also at most LAST - FIRST + 1': of a type
unfoldable pub upper_of_type : ObjectType → ℕ
upper_of_type t = elim (has_range t) [ true ↦ min t.max (t.last - t.first + 1) | false ↦ t.max ]

-- RMAX is 'part of its starting ceiling': of a role
unfoldable pub upper_of_role : Role → ℕ
upper_of_role r = min 4096 r.rmax

-- Starting upper bounds (document 01: starting ceilings), of all sets
unfoldable pub upper : Diagram → List ℕ
upper d =
    map upper_of_type d.types
    ++ map (λ (p : Predicate). p.max) d.preds
    ++ map upper_of_role (all_roles d)
    ++ map (λ (f : Frequency). 4096) (all_groups d)

-- The positions, counted from `i`, of the roles that pass the test
unfoldable pub select : (Role → Bool) → ℕ → List Role → List ℕ
select test i [] = []
select test i (r ∷ rs) = elim (test r) [ true ↦ i ∷ select test (suc i) rs | false ↦ select test (suc i) rs ]

-- The sets of 'the roles it plays itself', of the type with this number
unfoldable pub roles_of_type : Diagram → ℕ → List ℕ
roles_of_type d number = select (λ (r : Role). eqb r.type number) (first_role d) (all_roles d)

-- The positions, counted from `i`, of the roles in the group with this number; 0: in no group
unfoldable pub roles_in_group : ℕ → ℕ → List Role → List ℕ
roles_in_group number i rs = select (λ (r : Role). eqb r.group number) i rs

-- A predicate, its set, the set of its first role and that of its first group
pub record Placed : Type 0 where
  pub predicate : Predicate
  pub own : ℕ
  pub roles : ℕ
  pub groups : ℕ

unfoldable pub placed_from : ℕ → ℕ → ℕ → List Predicate → List Placed
placed_from r p q [] = []
placed_from r p q (x ∷ xs) =
    record { predicate = x; own = r; roles = p; groups = q } ∷ placed_from (suc r) (p + length x.roles) (q + length x.groups) xs

-- All predicates of the diagram, in file order
unfoldable pub placed : Diagram → List Placed
placed d = placed_from (first_pred d) (first_role d) (first_group d) d.preds

-- The set of the predicate's group with this number, and the sets of the roles in it
unfoldable pub group_set : Placed → ℕ → ℕ
group_set x number = x.groups + index number

unfoldable pub group_roles : Placed → ℕ → List ℕ
group_roles x number = roles_in_group number x.roles x.predicate.roles

-- What a predicate's rows are put together from: a group or an ungrouped role; its set, and the sets of its roles
pub record Part : Type 0 where
  pub own : ℕ
  pub roles : List ℕ

unfoldable pub group_part : Placed → ℕ → Part
group_part x number = record { own = group_set x number; roles = group_roles x number }

unfoldable pub role_part : ℕ → Part
role_part p = record { own = p; roles = p ∷ [] }

-- 'a predicate pairs its groups, then its ungrouped roles, to r; each kind in file order'
unfoldable pub parts : Placed → List Part
parts x = map (group_part x) (up_from 1 (length x.predicate.groups)) ++ map role_part (group_roles x 0)

-- ---- 'Upper limits': a, r, p and q are the sets of a type, a predicate, a role and a group

-- The size of set `s` is at most that of set `t`
unfoldable pub at_most : ℕ → ℕ → Limit
at_most s t = record { target = s; most = product (t ∷ []) }

-- A limit that holds only of some
unfoldable pub only_if : Bool → Limit → List Limit
only_if b l = elim b [ true ↦ l ∷ [] | false ↦ [] ]

-- 'p at most its a, at most its r, and, if grouped, at most its q; mandatory role: a at most p'
unfoldable pub limits_of_role : Placed → ℕ → Role → List Limit
limits_of_role x p r =
    let a : ℕ = index r.type in
    at_most p a ∷ at_most p x.own ∷ only_if (is_grouped r) (at_most p (group_set x r.group)) ++ only_if (is_mandatory r) (at_most a p)

-- 'group: r at most FMAX times q; q at most r / FMIN; q at most the product of its p'; of the group with this number
unfoldable pub limits_of_group : Placed → ℕ → Frequency → List Limit
limits_of_group x number f =
    let q : ℕ = group_set x number in
    record { target = x.own; most = times f.fmax q }
    ∷ record { target = q; most = quotient x.own f.fmin }
    ∷ record { target = q; most = product (group_roles x number) }
    ∷ []

-- 'r at most the product of all its q and its ungrouped p'
unfoldable pub limit_of_rows : Placed → Limit
limit_of_rows x = record { target = x.own; most = product (map (λ (b : Part). b.own) (parts x)) }

-- Of a predicate with its roles and groups
unfoldable pub limits_of_pred : Placed → List Limit
limits_of_pred x =
    flatten (map_from (limits_of_role x) x.roles x.predicate.roles)
    ++ flatten (map_from (limits_of_group x) 1 x.predicate.groups)
    ++ limit_of_rows x ∷ []

-- 'subtype: a at most its supertype's; not independent: a at most the sum of the roles it plays itself, 0 if it plays none', but 'a
-- non-independent subtype that plays no role is free of the sum limit' (document 02, S-2)
unfoldable pub limits_of_type : Diagram → ℕ → ObjectType → List Limit
limits_of_type d a t =
    only_if (not (is_root t)) (at_most a (index t.super))
    ++ only_if (must_play d (suc a) t) (record { target = a; most = sum (roles_of_type d (suc a)) })

-- All of them; the rounds do not depend on their order (`RoundLaws.exact`), which is that of the limits' numbers (`SingleLimits`)
unfoldable pub limits : Diagram → List Limit
limits d = flat_map limits_of_pred (placed d) ++ flatten (map_from (limits_of_type d) 0 d.types)

-- ---- the rounds on these sets

-- 'The ceilings standing after n rounds, for every whole n from 0'
unfoldable pub upper_after_rounds : Diagram → ℕ → List ℕ
upper_after_rounds d n = upper_after (limits d) (upper d) n

-- The bound in 'Where no ceiling starts below its floor, the count is at most 1 plus the sum of (starting ceiling - floor)';
-- `proofs/Laws/Rounds` has the inequality
unfoldable pub most_rounds : Diagram → ℕ
most_rounds d = suc (slack (lower d) (upper d))

-- How the rounds end, from some lower and upper bounds of the sets
unfoldable pub verdict_from : Diagram → List ℕ → List ℕ → Verdict
verdict_from d low high = run (limits d) low high

-- How the check ends
abbrev pub verdict : Diagram → Verdict
verdict d = verdict_from d (lower d) (upper d)
