-- Demand 3 as one statement: the record `Guarantee` at the end of this file, with its one proof in `proofs/Guarantee`. The demand, quoted at its fields:
--
--     This holds for every diagram, table or text, with no fault of form (refusals 1 to 6). From such a text reading makes the table with the
--     same numbers, if the lent space is long enough. After every number of rounds, none included, no population that meets all the diagram's
--     constraints has more members in any set than the ceiling then standing. Check and fill alike refuse the diagram as emptied, with the
--     set and round of document 01, exactly when no population meets them all, however short the lent space. Otherwise, if the lent space is
--     long enough, check writes the settled sizes, and fill writes the cells of document 01's filling. These cells are a population that
--     meets them all, in which each set has exactly its settled size; every other population that meets them all has at most as many members
--     in each set.
--
-- It holds of every text, table, list of cells, number of rounds and buffer (document 01: lent space), with no assumption. `read_call`, `check_call`
-- and `populate_call` (document 01: reading, check, fill) are the outcomes that the public functions promise for a buffer of the length `space`, and
-- `buffer_after` says what an outcome leaves in it. A population here is a `ValidPopulation`: cells that meet every constraint.
-- A list of sizes has one entry for each set, in document 01's order. `a ≼ b`: equally many, and no entry of `a` is above that of `b`.
use Rattle.std.specs.Prelude.{ℕ, ◌≤◌, ◌<◌, ◌≡◌, ◌↔◌, List, ◌++◌, length, drop}
use Rattle.counting.specs.Terms.{Each}
use Rattle.fixpoint.specs.Notions.{◌≼◌}
use Rattle.orm.specs.Diagram.{Diagram, table}
use Rattle.orm.specs.Text.{render, text_line, table_line}
use Rattle.orm.specs.Sets.{lower, upper, upper_after_rounds}
use Rattle.orm.specs.Population.{cells}
use Rattle.orm.specs.Populate.{population}
use Rattle.orm.specs.Constraints.{sizes, valid}
use Rattle.orm.specs.Outcome.{Outcome, refused, accepted, buffer_after, length_of, Sized, written}
use Rattle.orm.specs.Calls.{diagram_in, population_in, read_call, check_call, populate_call, validate_call}
use Rattle.orm.specs.Meaning.{Between, ValidPopulation}
use Rattle.orm.specs.WellFormed.{WellFormed}
use Rattle.guarantee.specs.Settling.{EmptiedFrom, RefusesBy, SettledFrom, Writes}

abbrev pub NoPopulation : Diagram → Type 0
NoPopulation d = (s : List ℕ) → ¬ ValidPopulation d s

-- ---- reading

-- Of a text of the diagram
pub record TextGuarantee (text : List ℕ) (d : Diagram) : Type 0 where
  -- 'From such a text reading makes the table with the same numbers, if the lent space is long enough': the text and the table are those of
  -- one diagram
  pub same_numbers : text ≡ render d
  pub reads : (space : ℕ) → length (table d) ≤ space → read_call text space ≡ accepted (table d)
  pub front : (buffer : List ℕ) → length (table d) ≤ length buffer
      → buffer_after (read_call text (length buffer)) buffer ≡ table d ++ drop (length (table d)) buffer
  pub hands_back : (space : ℕ) → length (table d) ≤ space → length_of (read_call text space) ≡ accepted (length (table d))
  pub too_short : (space : ℕ) → space < length (table d) → read_call text space ≡ refused 8 (length (table d)) 0
  -- so that all that follows of tables holds of this one
  pub accepted_again : diagram_in table_line (table d) ≡ accepted d

-- ---- check and populate: rounds from the diagram's own bounds

-- 'the set and round of document 01'
abbrev pub EmptiedAt : Diagram → ℕ → ℕ → Type 0
EmptiedAt d place round = EmptiedFrom d (lower d) (upper d) place round

-- 'refuse the diagram as emptied, with the set and round of document 01, exactly when no population meets them all, however short the lent space'
abbrev pub RefusesEmptied : Diagram → (ℕ → Outcome Sized) → Type 0
RefusesEmptied d call = RefusesBy 7 d (lower d) (upper d) (NoPopulation d) call

-- 'the settled sizes', and the rounds made
abbrev pub SettledAfter : Diagram → ℕ → List ℕ → Type 0
SettledAfter d rounds settled = SettledFrom d (lower d) (upper d) rounds settled

pub record Populated (t : List ℕ) (d : Diagram) : Type 0 where
  pub rounds : ℕ
  pub settled : List ℕ
  pub settled_after : SettledAfter d rounds settled
  -- 'if the lent space is long enough, check writes the settled sizes'
  pub check_writes : Writes (check_call t) rounds settled
  -- 'and fill writes the cells of document 01's filling'
  pub populate_writes : Writes (populate_call t) rounds (cells (population d settled))
  -- 'These cells are a population that meets them all'
  pub cells_meet : ValidPopulation d (cells (population d settled))
  -- 'in which each set has exactly its settled size'
  pub exact : sizes d cells_meet.population ≡ settled
  -- 'every other population that meets them all has at most as many members in each set'
  pub greatest : (s : List ℕ) (o : ValidPopulation d s) → sizes d o.population ≼ settled

-- Of a table of the diagram
pub record TableGuarantee (t : List ℕ) (d : Diagram) : Type 0 where
  -- 'After every number of rounds, none included, no population that meets all the diagram's constraints has more members in any set than the
  -- ceiling then standing'
  pub bounded : (rounds : ℕ) (s : List ℕ) (o : ValidPopulation d s) → sizes d o.population ≼ upper_after_rounds d rounds
  -- 'Check and fill alike refuse the diagram as emptied ..'
  pub check_refuses : RefusesEmptied d (check_call t)
  pub populate_refuses : RefusesEmptied d (populate_call t)
  -- 'Otherwise ..'
  pub otherwise : ¬ NoPopulation d → Populated t d
  -- a population is what validating says yes of, and its sizes are those of the cells cut by their own size cells
  pub judged : (s : List ℕ) → (validate_call t s ≡ accepted valid) ↔ ValidPopulation d s
  pub cut : (s : List ℕ) (o : ValidPopulation d s) → population_in d s ≡ accepted o.population
  -- 'Cells, 32 bits each' (document 01): a population has no other cells, so it need not be assumed above
  pub of_32_bits : (s : List ℕ) → ValidPopulation d s → Each (◌< 4294967296) s

-- ---- demand 3

-- Refusals 1 to 6, whatever the buffer's length
pub record FaultOfForm {A : Type 0} (call : ℕ → Outcome A) : Type 0 where
  pub number : ℕ
  pub place : ℕ
  pub of_form : Between 1 number 6
  pub refuses : (space : ℕ) → call space ≡ refused number place 0

pub record Guarantee : Type 0 where
  -- 'This holds for every diagram, table or text, with no fault of form (refusals 1 to 6)'
  pub of_text : (text : List ℕ) (d : Diagram) → diagram_in text_line text ≡ accepted d → TextGuarantee text d
  pub of_table : (t : List ℕ) (d : Diagram) → diagram_in table_line t ≡ accepted d → TableGuarantee t d
  -- these are the texts and tables of the well-formed diagrams, all of them
  pub accepted_texts : (text : List ℕ) (d : Diagram) → (diagram_in text_line text ≡ accepted d) ↔ ((text ≡ render d) × WellFormed d)
  pub accepted_tables : (t : List ℕ) (d : Diagram) → (diagram_in table_line t ≡ accepted d) ↔ ((t ≡ table d) × WellFormed d)
  -- and any other has a fault of form, for which it is refused
  pub other_texts : (text : List ℕ) → ((d : Diagram) → ¬ (diagram_in text_line text ≡ accepted d)) → FaultOfForm (read_call text)
  pub other_tables : (t : List ℕ) → ((d : Diagram) → ¬ (diagram_in table_line t ≡ accepted d))
      → FaultOfForm (check_call t) × FaultOfForm (populate_call t)
  -- a refusal 'writes no lent byte or number' (document 01), of reading, and of check and populate
  pub refusals : (number place round : ℕ) (buffer : List ℕ) → buffer_after (refused number place round) buffer ≡ buffer
  pub sized_refusals : (number place round : ℕ) (buffer : List ℕ) → buffer_after (written (refused number place round)) buffer ≡ buffer
