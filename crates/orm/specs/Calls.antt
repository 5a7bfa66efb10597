-- The outcome of every call on a text or a table as a function of its input (document 01, 'What the machine says no to'). `space` is the length of
-- the buffer. The refusals stand in their order. 'Reading takes text and gives the table; every other call takes the table'.
use Rattle.std.specs.Prelude.{ℕ, suc, List}
use Rattle.fixpoint.specs.Limits.{Verdict, unsatisfiable, fixpoint}
use Rattle.orm.specs.Diagram.{Diagram, LineKind, table}
use Rattle.orm.specs.Reader.{Cut}
use Rattle.orm.specs.Form.{reading}
use Rattle.orm.specs.Text.{render, text_line, table_line}
use Rattle.orm.specs.Sets.{verdict}
use Rattle.orm.specs.Population.{Population, cells, cutting}
use Rattle.orm.specs.Populate.{population}
use Rattle.orm.specs.Constraints.{Answer, answer}
use Rattle.orm.specs.Outcome.{Outcome, refused, accepted, ◌>>=◌, outcome_of, fitted, Sized}

-- 1 to 6: the diagram in a text or a table
unfoldable pub diagram_in : (LineKind → List ℕ → Cut) → List ℕ → Outcome Diagram
diagram_in next s = outcome_of (reading next s)

-- 'a set is emptied', refused by this number at the 'set number'; or 'the ceilings are the sizes, called settled'
unfoldable pub sizes_by : ℕ → Verdict → Outcome Sized
sizes_by number (unsatisfiable s round) = refused number (suc s) round
sizes_by number (fixpoint n c) = accepted (record { rounds = n; result = c })

-- 7
unfoldable pub sizes_of : Diagram → Outcome Sized
sizes_of d = sizes_by 7 (verdict d)

-- 9 'cells end early or run on'
unfoldable pub population_in : Diagram → List ℕ → Outcome Population
population_in d s = outcome_of (cutting d s)

-- 'Reading takes text and gives the table'
unfoldable pub read_call : List ℕ → ℕ → Outcome (List ℕ)
read_call text space = do
  d ← diagram_in text_line text
  fitted space (table d)

-- 'Writing gives the text'
unfoldable pub write_call : List ℕ → ℕ → Outcome (List ℕ)
write_call t space = do
  d ← diagram_in table_line t
  fitted space (render d)

-- 'Then 7 (check and fill only), then 8': what is made of the sizes that the rounds end with, and the rounds
unfoldable pub settled_into : ℕ → (List ℕ → List ℕ) → Verdict → ℕ → Outcome Sized
settled_into number make v space = do
  s ← sizes_by number v
  w ← fitted space (make s.result)
  accepted (record { rounds = s.rounds; result = w })

-- 'the check the sizes in set order'
unfoldable pub check_call : List ℕ → ℕ → Outcome Sized
check_call t space = do
  d ← diagram_in table_line t
  settled_into 7 (λ c. c) (verdict d) space

-- Populating (document 01: filling): 'the fill the cells'
unfoldable pub populate_call : List ℕ → ℕ → Outcome Sized
populate_call t space = do
  d ← diagram_in table_line t
  settled_into 7 (λ c. cells (population d c)) (verdict d) space

-- Validating (document 01: judging): 'in the judge 9 follows 6. The judge doesn't run rounds'
unfoldable pub validate_call : List ℕ → List ℕ → Outcome Answer
validate_call t s = do
  d ← diagram_in table_line t
  o ← population_in d s
  accepted (answer d o)
