-- One limit at a time on upper bounds that the caller keeps (document 02, S-13: 'The panel is to apply one limit at a time when a user edits').
-- A limit's number is its index in `limits`, from 0. The refusals stand in their order.
use Rattle.std.specs.Prelude.{ℕ, Bool, true, false, List, ltb, length, take}
use Rattle.fixpoint.specs.Limits.{step_at, lowers_at, any_lowers}
use Rattle.orm.specs.Text.{table_line}
use Rattle.orm.specs.Sets.{set_count, upper, limits}
use Rattle.orm.specs.Outcome.{Outcome, refused, accepted, ◌>>=◌, fitted}
use Rattle.orm.specs.Calls.{diagram_in}

-- 'from the starting ceilings': the upper bounds that the rounds start from, in set order
unfoldable pub start_call : List ℕ → ℕ → Outcome (List ℕ)
start_call t space = do
  d ← diagram_in table_line t
  fitted space (upper d)

-- 10, at the number: no limit has it
unfoldable pub numbered : ℕ → ℕ → Outcome ℕ
numbered count k = elim (ltb k count) [ true ↦ accepted k | false ↦ refused 10 k 0 ]

-- 8, at the length needed: the buffer is shorter than the upper bounds at its front
unfoldable pub front_of : ℕ → List ℕ → Outcome (List ℕ)
front_of n buffer = elim (ltb (length buffer) n) [ true ↦ refused 8 n 0 | false ↦ accepted (take n buffer) ]

-- The limit with this number put to use on the upper bounds at the front of the buffer: whether it lowers one, and the bounds afterwards
pub record Stepped : Type 0 where
  pub lowers : Bool
  pub result : List ℕ

unfoldable pub lower_call : List ℕ → ℕ → List ℕ → Outcome Stepped
lower_call t k buffer = do
  d ← diagram_in table_line t
  number ← numbered (length (limits d)) k
  c ← front_of (set_count d) buffer
  accepted (record { lowers = lowers_at (limits d) number c; result = step_at (limits d) number c })

-- what it writes
abbrev pub bounds_of : Outcome Stepped → Outcome (List ℕ)
bounds_of o = o >>= λ s. accepted s.result

-- What is handed back: whether a limit lowers an upper bound; and a count, here 'the result's length'
pub record Found : Type 0 where
  pub lowers : Bool
  pub count : ℕ

abbrev pub found_of : Outcome Stepped → Outcome Found
found_of o = o >>= λ s. accepted (record { lowers = s.lowers; count = length s.result })

-- Whether any limit lowers one of the upper bounds at the front of the buffer, and how many limits there are
unfoldable pub survey_call : List ℕ → List ℕ → Outcome Found
survey_call t buffer = do
  d ← diagram_in table_line t
  c ← front_of (set_count d) buffer
  accepted (record { lowers = any_lowers (limits d) c; count = length (limits d) })
