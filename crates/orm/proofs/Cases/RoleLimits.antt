-- Limits on a role (document 02, S-8), as one list of inputs with their outcomes, and the one theorem that they hold.
use Prim.Native.String.{String}
use Rattle.std.specs.Prelude.{◌≡◌, refl, List, [], ◌∷◌, ◌++◌, map}
use Rattle.orm.specs.Constraints.{valid, breaks}
use Rattle.orm.proofs.Cases.All.{everything}
use Rattle.orm.proofs.Cases.Inputs.{Case, result_of, settles, refuses, answers}
use Rattle.orm.specs.Sample.{text}

-- The sample's types, and a predicate with these lines: its roles stand on lines 7 and 8, and their sets are 4 and 5
with : String → List String → String → List String → List String
with first pred freq roles =
    first ∷ "types=2" ∷ "type=1,3,1,9,0,0" ∷ "type=1,2,1,2,0,0" ∷ "preds=1" ∷ pred ++ roles ++ freq ∷ "end=2" ∷ []

-- The sample, with these lines for its roles
sample_of : String → List String → List String
sample_of first roles = with first ("pred=1,100,2,1" ∷ []) "freq=1,2" roles

-- A type 1..9 of at most 3 members, and two predicates of one role each
alone : String → String → String → List String
alone first role₁ role₂ =
    first ∷ "types=1" ∷ "type=1,3,1,9,0,0" ∷ "preds=2" ∷ "pred=1,9,1,0" ∷ role₁ ∷ "pred=1,9,1,0" ∷ role₂ ∷ "end=2" ∷ []

pub cases : List Case
cases =
    -- 1 and 4096 everywhere: the sizes of the file that begins `diagram=1`
    settles (sample_of "diagram=1" ("role=1,1,1" ∷ "role=2,0,0" ∷ [])) 4 (3 ∷ 2 ∷ 6 ∷ 3 ∷ 2 ∷ 3 ∷ [])
    ∷ settles (sample_of "diagram=2" ("role=1,1,1,1,4096" ∷ "role=2,0,0,1,4096" ∷ [])) 4 (3 ∷ 2 ∷ 6 ∷ 3 ∷ 2 ∷ 3 ∷ [])
    -- RMAX cuts a role, and with it the type that must play it, the group and the predicate
    ∷ settles (sample_of "diagram=2" ("role=1,1,1,1,2" ∷ "role=2,0,0,1,4096" ∷ [])) 3 (2 ∷ 2 ∷ 4 ∷ 2 ∷ 2 ∷ 2 ∷ [])
    ∷ settles (sample_of "diagram=2" ("role=1,1,1,1,4096" ∷ "role=2,0,0,1,1" ∷ [])) 4 (3 ∷ 1 ∷ 3 ∷ 3 ∷ 1 ∷ 3 ∷ [])
    -- RMIN that is just reached; the roles start where they settle, a round earlier
    ∷ settles (sample_of "diagram=2" ("role=1,1,1,3,3" ∷ "role=2,0,0,2,2" ∷ [])) 3 (3 ∷ 2 ∷ 6 ∷ 3 ∷ 2 ∷ 3 ∷ [])
    -- RMIN above the starting upper bound of the role's type: of the first role, of the second
    ∷ refuses (sample_of "diagram=2" ("role=1,1,1,4,9" ∷ "role=2,0,0,1,1" ∷ [])) 7 4 1
    ∷ refuses (sample_of "diagram=2" ("role=1,1,1,1,9" ∷ "role=2,0,0,3,3" ∷ [])) 7 5 1
    -- RMIN that no size reaches: with 6 rows at most 2 combinations occur three times, which the second round tells the role
    ∷ refuses (with "diagram=2" ("pred=1,6,2,1" ∷ []) "freq=3,3" ("role=1,1,1,3,4096" ∷ "role=2,0,0,1,4096" ∷ [])) 7 4 2
    -- 'role members number RMIN..RMAX': the members are the different values, here 2 in three rows
    ∷ answers (sample_of "diagram=2" ("role=1,1,1,2,2" ∷ "role=2,0,0,2,2" ∷ [])) (2 ∷ 1 ∷ 2 ∷ 2 ∷ 1 ∷ 2 ∷ 3 ∷ 1 ∷ 1 ∷ 1 ∷ 2 ∷ 2 ∷ 1 ∷ []) valid
    ∷ answers (sample_of "diagram=2" ("role=1,1,1,2,2" ∷ "role=2,0,0,3,3" ∷ [])) (2 ∷ 1 ∷ 2 ∷ 2 ∷ 1 ∷ 2 ∷ 3 ∷ 1 ∷ 1 ∷ 1 ∷ 2 ∷ 2 ∷ 1 ∷ []) (breaks 11 1)
    -- K11 broken alone, by the second predicate: fewer than RMIN, more than RMAX; and kept
    ∷ answers (alone "diagram=2" "role=1,1,0,1,9" "role=1,0,0,2,2") (3 ∷ 1 ∷ 2 ∷ 3 ∷ 3 ∷ 1 ∷ 2 ∷ 3 ∷ 1 ∷ 3 ∷ []) (breaks 11 2)
    ∷ answers (alone "diagram=2" "role=1,1,0,1,9" "role=1,0,0,2,2") (3 ∷ 1 ∷ 2 ∷ 3 ∷ 3 ∷ 1 ∷ 2 ∷ 3 ∷ 3 ∷ 1 ∷ 2 ∷ 3 ∷ []) (breaks 11 2)
    ∷ answers (alone "diagram=2" "role=1,1,0,1,9" "role=1,0,0,2,2") (3 ∷ 1 ∷ 2 ∷ 3 ∷ 3 ∷ 1 ∷ 2 ∷ 3 ∷ 2 ∷ 1 ∷ 3 ∷ []) valid
    -- by both: the lowest number
    ∷ answers (alone "diagram=2" "role=1,1,0,1,2" "role=1,0,0,2,2") (3 ∷ 1 ∷ 2 ∷ 3 ∷ 3 ∷ 1 ∷ 2 ∷ 3 ∷ 1 ∷ 3 ∷ []) (breaks 11 1)
    -- a lower K with it: K8 of the first predicate, K10 of the type
    ∷ answers (alone "diagram=2" "role=1,1,0,1,9" "role=1,0,0,2,2") (3 ∷ 1 ∷ 2 ∷ 3 ∷ 2 ∷ 1 ∷ 2 ∷ 3 ∷ 1 ∷ 2 ∷ 3 ∷ []) (breaks 8 1)
    ∷ answers (alone "diagram=2" "role=1,0,0,1,9" "role=1,0,0,2,2") (3 ∷ 1 ∷ 2 ∷ 3 ∷ 2 ∷ 1 ∷ 2 ∷ 1 ∷ 1 ∷ []) (breaks 10 1)
    -- the same cells in `diagram=1`, where a role has no limits
    ∷ answers (alone "diagram=1" "role=1,1,0" "role=1,0,0") (3 ∷ 1 ∷ 2 ∷ 3 ∷ 3 ∷ 1 ∷ 2 ∷ 3 ∷ 1 ∷ 3 ∷ []) valid
    -- '2 now allows 1..2 on the first line'
    ∷ refuses (sample_of "diagram=0" ("role=1,1,1" ∷ "role=2,0,0" ∷ [])) 2 1 0
    ∷ refuses (sample_of "diagram=3" ("role=1,1,1,1,9" ∷ "role=2,0,0,1,9" ∷ [])) 2 1 0
    -- 'two more numbers after GROUP': five in `diagram=1`, three and four in `diagram=2`
    ∷ refuses (sample_of "diagram=1" ("role=1,1,1,1,9" ∷ "role=2,0,0" ∷ [])) 1 7 0
    ∷ refuses (sample_of "diagram=2" ("role=1,1,1" ∷ "role=2,0,0,1,9" ∷ [])) 1 7 0
    ∷ refuses (sample_of "diagram=2" ("role=1,1,1,1,9" ∷ "role=2,0,0,1" ∷ [])) 1 8 0
    -- out of 1..4096, before 3 and 4
    ∷ refuses (sample_of "diagram=2" ("role=1,1,1,0,9" ∷ "role=2,0,0,1,9" ∷ [])) 2 7 0
    ∷ refuses (sample_of "diagram=2" ("role=3,1,1,1,4097" ∷ "role=2,0,0,1,9" ∷ [])) 2 7 0
    -- 'RMIN is above RMAX', after 3
    ∷ refuses (sample_of "diagram=2" ("role=3,1,1,3,2" ∷ "role=2,0,0,1,9" ∷ [])) 3 7 0
    ∷ refuses (sample_of "diagram=2" ("role=1,1,1,3,2" ∷ "role=2,0,0,1,9" ∷ [])) 4 7 0
    ∷ refuses (sample_of "diagram=2" ("role=1,1,1,1,9" ∷ "role=2,0,0,9,8" ∷ [])) 4 8 0
    ∷ []

pub cases_hold : map (λ (c : Case). result_of c.input) cases ≡ map (λ (c : Case). c.result) cases
unfolding everything text result_of settles refuses answers with sample_of alone cases
cases_hold = refl
