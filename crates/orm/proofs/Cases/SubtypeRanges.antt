-- Ranges on subtypes (document 02, S-5), as one list of inputs with their outcomes, and the one theorem that they hold.
use Prim.Native.String.{String}
use Rattle.std.specs.Prelude.{◌≡◌, refl, List, [], ◌∷◌, ◌++◌, map}
use Rattle.orm.specs.Constraints.{valid, breaks}
use Rattle.orm.proofs.Cases.All.{everything}
use Rattle.orm.proofs.Cases.Inputs.{Case, result_of, settles, refuses, answers}
use Rattle.orm.specs.Sample.{text}

-- This root, in a role of at most 9 members, and these types besides it
with : String → String → List String → List String
with root count types = "diagram=1" ∷ count ∷ root ∷ types ++ "preds=1" ∷ "pred=1,9,1,0" ∷ "role=1,0,0" ∷ "end=1" ∷ []

-- 'blanks 1 to 400'
within : String → List String → List String
within = with "type=1,400,1,400,0,1"

-- under a root 0..9 of at most 6 members
from_zero : String → List String
from_zero type = with "type=1,6,0,9,0,1" "types=2" (type ∷ [])

-- a root 1..9
few : String → List String
few type = with "type=1,9,1,9,0,1" "types=2" (type ∷ [])

pub cases : List Case
cases =
    -- 'small blanks 1 to 50 within blanks 1 to 400'
    settles (within "types=2" ("type=1,99,1,50,1,0" ∷ [])) 2 (400 ∷ 50 ∷ 9 ∷ 9 ∷ [])
    -- a range within it, and one beside it
    ∷ settles (within "types=3" ("type=1,99,1,50,1,0" ∷ "type=1,99,1,20,2,0" ∷ [])) 2 (400 ∷ 50 ∷ 20 ∷ 9 ∷ 9 ∷ [])
    ∷ settles (within "types=3" ("type=1,99,1,50,1,0" ∷ "type=1,99,1,60,1,0" ∷ [])) 2 (400 ∷ 50 ∷ 60 ∷ 9 ∷ 9 ∷ [])
    -- a chain whose middle type gives none: LAST up to that of the nearest that gives one, and not above it
    ∷ settles (within "types=4" ("type=1,99,1,50,1,0" ∷ "type=1,40,0,0,2,0" ∷ "type=1,99,1,50,3,0" ∷ [])) 2 (400 ∷ 50 ∷ 40 ∷ 40 ∷ 9 ∷ 9 ∷ [])
    ∷ refuses (within "types=4" ("type=1,99,1,50,1,0" ∷ "type=1,40,0,0,2,0" ∷ "type=1,99,1,51,3,0" ∷ [])) 4 6 0
    -- a subtype without a range starts at its MAX and inherits nothing: two rounds lower two of them
    ∷ settles (within "types=4" ("type=1,99,1,50,1,0" ∷ "type=1,99,0,0,2,0" ∷ "type=1,99,0,0,3,0" ∷ [])) 3 (400 ∷ 50 ∷ 50 ∷ 50 ∷ 9 ∷ 9 ∷ [])
    -- LAST above that of the nearest, though not above the root's; above the root's
    ∷ refuses (within "types=3" ("type=1,99,1,50,1,0" ∷ "type=1,99,1,51,2,0" ∷ [])) 4 5 0
    ∷ refuses (within "types=2" ("type=1,99,1,401,1,0" ∷ [])) 4 4 0
    -- FIRST not the root's, above it and below it
    ∷ refuses (within "types=2" ("type=1,99,2,50,1,0" ∷ [])) 4 4 0
    ∷ refuses (within "types=2" ("type=1,99,0,50,1,0" ∷ [])) 4 4 0
    -- LAST below FIRST
    ∷ refuses (within "types=2" ("type=1,99,1,0,1,0" ∷ [])) 4 4 0
    -- 3 before 4, where SUPER is the type itself
    ∷ refuses (within "types=2" ("type=1,99,2,1,2,0" ∷ [])) 3 4 0
    -- 0,0 means none, also under a root whose FIRST is 0; 0,3 is four values
    ∷ settles (from_zero "type=1,5,0,0,1,0") 3 (6 ∷ 5 ∷ 6 ∷ 6 ∷ [])
    ∷ settles (from_zero "type=1,5,0,3,1,0") 3 (6 ∷ 4 ∷ 6 ∷ 6 ∷ [])
    -- a pair that makes the start smaller than MIN
    ∷ refuses (within "types=2" ("type=60,99,1,50,1,0" ∷ [])) 7 2 0
    -- 'K3 covers it': 3 is not in 1..2, it is in 1..3, and 0,0 asks nothing
    ∷ answers (few "type=1,9,1,2,1,0") (3 ∷ 1 ∷ 2 ∷ 3 ∷ 2 ∷ 2 ∷ 3 ∷ 1 ∷ 1 ∷ []) (breaks 3 2)
    ∷ answers (few "type=1,9,1,3,1,0") (3 ∷ 1 ∷ 2 ∷ 3 ∷ 2 ∷ 2 ∷ 3 ∷ 1 ∷ 1 ∷ []) valid
    ∷ answers (few "type=1,9,0,0,1,0") (3 ∷ 1 ∷ 2 ∷ 3 ∷ 2 ∷ 2 ∷ 3 ∷ 1 ∷ 1 ∷ []) valid
    ∷ []

pub cases_hold : map (λ (c : Case). result_of c.input) cases ≡ map (λ (c : Case). c.result) cases
unfolding everything text result_of settles refuses answers with within from_zero few cases
cases_hold = refl
