-- The marked cases P1 to P11 of document 01 ('Marked P') as one list of inputs with their outcomes, and the one theorem that they hold.
use Rattle.std.specs.Prelude.{ℕ, ◌≡◌, refl}
use Prim.Native.String.{String}
use mathlib.Core.List.{List, [], ◌∷◌, map, flat_map}
use Rattle.pairing.specs.Pairing.{tuples}
use Rattle.orm.specs.Outcome.{Outcome, refused, accepted, ◌>>=◌, written}
use Rattle.orm.specs.Calls.{read_call, populate_call}
use Rattle.orm.specs.Program.{program}
use Rattle.orm.proofs.Cases.All.{everything}
use Rattle.orm.specs.Sample.{text, sample_with, sample}

-- A buffer that is long enough for every table
abbrev pub table_space : ℕ
table_space = 900

-- ---- inputs and outcomes

pub data Input : Type 0 where
  -- a file, given to the program: what it prints
  file : List String → Input
  -- a file, read and populated: the cells
  cells_of : List String → Input
  -- sets of these sizes paired to so many tuples: those at these places, from 0, by index
  pairing : List ℕ → ℕ → List ℕ → Input

pub record Case : Type 0 where
  -- the number behind the P
  pub number : ℕ
  pub input : Input
  pub outcome : List ℕ

-- what a call has written; nothing where it refuses
written_by : Outcome (List ℕ) → List ℕ
written_by (refused c place round) = []
written_by (accepted w) = w

pub outcome_of : Input → List ℕ
outcome_of (file ls) = program (text ls)
outcome_of (cells_of ls) = written_by (read_call (text ls) table_space >>= λ t. written (populate_call t 16000))
outcome_of (pairing sizes want places) = flat_map (tuples want sizes).row places

printed : ℕ → List String → List String → Case
printed n ls out = record { number = n; input = file ls; outcome = text out }

cells_in : ℕ → List String → List ℕ → Case
cells_in n ls out = record { number = n; input = cells_of ls; outcome = out }

paired : ℕ → List ℕ → ℕ → List ℕ → List ℕ → Case
paired n sizes want places out = record { number = n; input = pairing sizes want places; outcome = out }

-- ---- the cases

pub cases : List Case
cases =
    -- 'the sample; 20 cells'
    printed 1 sample
    ("rounds=4" ∷ "size=3" ∷ "size=2" ∷ "size=6" ∷ "size=3" ∷ "size=2" ∷ "size=3" ∷ "type=1,2,3" ∷ "type=1,2"
    ∷ "pred=1" ∷ "row=1,1" ∷ "row=2,2" ∷ "row=3,1" ∷ "row=1,2" ∷ "row=2,1" ∷ "row=3,2" ∷ [])
    ∷ cells_in 1 sample (3 ∷ 1 ∷ 2 ∷ 3 ∷ 2 ∷ 1 ∷ 2 ∷ 6 ∷ 1 ∷ 1 ∷ 2 ∷ 2 ∷ 3 ∷ 1 ∷ 1 ∷ 2 ∷ 2 ∷ 1 ∷ 3 ∷ 2 ∷ [])
    -- '7, set 1, round 5'
    ∷ printed 2
    ("diagram=1" ∷ "types=2" ∷ "type=1000,4096,1,9999,0,0" ∷ "type=1,2,1,2,0,0"
    ∷ "preds=1" ∷ "pred=1,4096,2,2" ∷ "role=1,1,1" ∷ "role=2,0,2" ∷ "freq=1,1" ∷ "freq=1,1" ∷ "end=2" ∷ [])
    ("refused=7,1,5" ∷ [])
    -- '7, set 6, round 12'
    ∷ printed 3
    ("diagram=1" ∷ "types=2" ∷ "type=1,10,1,10,0,0" ∷ "type=1,2,1,2,0,0"
    ∷ "preds=1" ∷ "pred=1,100,2,1" ∷ "role=1,0,1" ∷ "role=2,0,0" ∷ "freq=3,3" ∷ "end=2" ∷ [])
    ("refused=7,6,12" ∷ [])
    -- 'pairing 2 with 2 to 4, by index: 00, 11, 01, 10'
    ∷ paired 4 (2 ∷ 2 ∷ []) 4 (0 ∷ 1 ∷ 2 ∷ 3 ∷ []) (0 ∷ 0 ∷ 1 ∷ 1 ∷ 0 ∷ 1 ∷ 1 ∷ 0 ∷ [])
    -- 'sizes 4, 6, 2 to 15: tenth triple, by index, 1,3,1; thirteenth 0,1,0; fifteenth 2,3,0'
    ∷ paired 5 (4 ∷ 6 ∷ 2 ∷ []) 15 (9 ∷ 12 ∷ 14 ∷ []) (1 ∷ 3 ∷ 1 ∷ 0 ∷ 1 ∷ 0 ∷ 2 ∷ 3 ∷ 0 ∷ [])
    -- 'type of 4 members 1..4, two roles of 3: 1,2,3 and 4,1,2'
    ∷ printed 6
    ("diagram=1" ∷ "types=1" ∷ "type=4,4,1,4,0,0" ∷ "preds=2" ∷ "pred=1,3,1,0" ∷ "role=1,0,0" ∷ "pred=1,3,1,0" ∷ "role=1,0,0" ∷ "end=2" ∷ [])
    ("rounds=2" ∷ "size=4" ∷ "size=3" ∷ "size=3" ∷ "size=3" ∷ "size=3" ∷ "type=1,2,3,4"
    ∷ "pred=1" ∷ "row=1" ∷ "row=2" ∷ "row=3" ∷ "pred=2" ∷ "row=4" ∷ "row=1" ∷ "row=2" ∷ [])
    -- 'two subtypes of size 2 under a root of size 2 hold the same two values'
    ∷ printed 7
    ("diagram=1" ∷ "types=3" ∷ "type=1,2,5,6,0,0" ∷ "type=2,2,0,0,1,1" ∷ "type=2,2,0,0,1,1"
    ∷ "preds=1" ∷ "pred=1,2,1,0" ∷ "role=1,0,0" ∷ "end=1" ∷ [])
    ("rounds=2" ∷ "size=2" ∷ "size=2" ∷ "size=2" ∷ "size=2" ∷ "size=2" ∷ "type=5,6" ∷ "type=5,6" ∷ "type=5,6" ∷ "pred=1" ∷ "row=5" ∷ "row=6" ∷ [])
    -- 'the sample with `types=3` and a third type line `type=1,5,1,5,0,0`, a non-independent type without roles: 7, set 3, round 1'
    ∷ printed 8 (sample_with ("types=3" ∷ "type=1,3,1,9,0,0" ∷ "type=1,2,1,2,0,0" ∷ "type=1,5,1,5,0,0" ∷ [])) ("refused=7,3,1" ∷ [])
    -- 'the sample with first type `type=3,5,1,2,0,1`: 7, set 1, round 0'
    ∷ printed 9 (sample_with ("types=2" ∷ "type=3,5,1,2,0,1" ∷ "type=1,2,1,2,0,0" ∷ [])) ("refused=7,1,0" ∷ [])
    -- 'a file of the two lines `diagram=1`, `types=32`: 1, line 3', and 'the same with `types=33`: 2, line 2'
    ∷ printed 10 ("diagram=1" ∷ "types=32" ∷ []) ("refused=1,3,0" ∷ [])
    ∷ printed 11 ("diagram=1" ∷ "types=33" ∷ []) ("refused=2,2,0" ∷ [])
    ∷ []

pub cases_hold : map (λ (c : Case). outcome_of c.input) cases ≡ map (λ (c : Case). c.outcome) cases
unfolding everything text sample_with sample written_by outcome_of printed cells_in paired cases
cases_hold = refl
