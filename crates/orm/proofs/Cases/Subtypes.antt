-- Subtypes that play no role (document 02, S-2), as one list of inputs with their outcomes, and the one theorem that they hold.
use Prim.Native.String.{String}
use Rattle.std.specs.Prelude.{◌≡◌, refl, List, [], ◌∷◌, ◌++◌, map}
use Rattle.orm.specs.Constraints.{valid, breaks}
use Rattle.orm.proofs.Cases.All.{everything}
use Rattle.orm.proofs.Cases.Inputs.{Case, result_of, settles, refuses, answers}
use Rattle.orm.specs.Sample.{text}

-- A root of at most 4 members, 1..9, in a role, and these types besides it
beside : String → List String → List String
beside count types = "diagram=1" ∷ count ∷ "type=1,4,1,9,0,0" ∷ types ++ "preds=1" ∷ "pred=1,4,1,0" ∷ "role=1,0,0" ∷ "end=1" ∷ []

-- This root and this subtype of it, which plays the one role, of at most 2 members
played : String → String → List String
played root subtype = "diagram=1" ∷ "types=2" ∷ root ∷ subtype ∷ "preds=1" ∷ "pred=1,2,1,0" ∷ "role=2,0,0" ∷ "end=1" ∷ []

pub cases : List Case
cases =
    -- a subtype without a role settles at its root's size, or at its MAX
    settles (beside "types=2" ("type=1,9,0,0,1,0" ∷ [])) 2 (4 ∷ 4 ∷ 4 ∷ 4 ∷ [])
    ∷ settles (beside "types=2" ("type=1,3,0,0,1,0" ∷ [])) 2 (4 ∷ 3 ∷ 4 ∷ 4 ∷ [])
    -- and so does each of a chain
    ∷ settles (beside "types=4" ("type=1,9,0,0,1,0" ∷ "type=1,9,0,0,2,0" ∷ "type=1,9,0,0,3,0" ∷ [])) 4 (4 ∷ 4 ∷ 4 ∷ 4 ∷ 4 ∷ 4 ∷ [])
    -- it has no more members than its supertype
    ∷ refuses (beside "types=2" ("type=5,9,0,0,1,0" ∷ [])) 7 2 1
    -- a root without roles is refused, also one that has a subtype with a role
    ∷ refuses (beside "types=2" ("type=1,4,1,9,0,0" ∷ [])) 7 2 1
    ∷ refuses (played "type=1,4,1,9,0,0" "type=1,4,0,0,1,0") 7 1 1
    -- a subtype that plays a role keeps its limit
    ∷ settles (played "type=4,4,1,9,0,1" "type=1,4,0,0,1,0") 3 (4 ∷ 2 ∷ 2 ∷ 2 ∷ [])
    ∷ refuses (played "type=4,4,1,9,0,1" "type=3,4,0,0,1,0") 7 2 2
    -- K10 is not for the subtype without a role; it is for the root above it, for a root without a role, and for a subtype with one
    ∷ answers (beside "types=2" ("type=1,4,0,0,1,0" ∷ [])) (2 ∷ 5 ∷ 6 ∷ 1 ∷ 6 ∷ 2 ∷ 5 ∷ 6 ∷ []) valid
    ∷ answers (beside "types=2" ("type=1,4,0,0,1,0" ∷ [])) (2 ∷ 5 ∷ 6 ∷ 1 ∷ 6 ∷ 1 ∷ 5 ∷ []) (breaks 10 1)
    ∷ answers (beside "types=2" ("type=1,4,1,9,0,0" ∷ [])) (2 ∷ 5 ∷ 6 ∷ 1 ∷ 6 ∷ 2 ∷ 5 ∷ 6 ∷ []) (breaks 10 2)
    ∷ answers (played "type=1,4,1,9,0,1" "type=1,4,0,0,1,0") (2 ∷ 5 ∷ 6 ∷ 2 ∷ 5 ∷ 6 ∷ 1 ∷ 5 ∷ []) (breaks 10 2)
    ∷ []

pub cases_hold : map (λ (c : Case). result_of c.input) cases ≡ map (λ (c : Case). c.result) cases
unfolding everything text result_of settles refuses answers beside played cases
cases_hold = refl
