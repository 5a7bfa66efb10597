-- Demand 3 on running code, one statement over all three: whatever `read`, `check` and `populate` answer, and whatever they leave in their buffers,
-- means what the guarantee says. `HasRead`, `HasChecked` and `HasPopulated` are what the contracts of the three functions ensure.
use Rattle.std.specs.Prelude.{ℕ, ◌<◌, ◌≡◌, List, ◌++◌, length, drop, Result, Ok, Err}
use Rattle.fixpoint.specs.Notions.{◌≼◌}
use Rattle.orm.specs.Diagram.{Diagram, table}
use Rattle.orm.specs.Text.{render}
use Rattle.orm.specs.Sets.{upper_after_rounds}
use Rattle.orm.specs.Constraints.{sizes}
use Rattle.orm.specs.Outcome.{length_of, buffer_after}
use Rattle.orm.specs.Calls.{read_call, check_call, populate_call}
use Rattle.orm.specs.Meaning.{ValidPopulation}
use Rattle.orm.specs.WellFormed.{WellFormed}
use Rattle.guarantee.specs.Guarantee.{NoPopulation, EmptiedAt, Populated}
use Rattle.reader.specs.Answer.{conversion_of}
use Rattle.bounds.specs.Answer.{Answered}
use Rattle.bounds.specs.declared.Written as bounds
use Rattle.refusals.specs.declared.Refusal.{Refusal}
use Rattle.refusals.specs.declared.Refusal.TheVariants as refusals
use Rattle.populate.specs.Answer.{cells_of}

-- ---- the contracts: the answer `r`, and the buffer before and after

pub record HasRead (text before : List ℕ) (r : Result ℕ Refusal) (after : List ℕ) : Type 0 where
  pub handed : conversion_of r ≡ length_of (read_call text (length before))
  pub buffer : after ≡ buffer_after (read_call text (length before)) before

abbrev pub HasChecked : List ℕ → List ℕ → Result bounds.Written Refusal → List ℕ → Type 0
HasChecked t before r after = Answered (check_call t (length before)) r before after

abbrev pub HasPopulated : List ℕ → List ℕ → Result bounds.Written Refusal → List ℕ → Type 0
HasPopulated t before r after = Answered (populate_call t (length before)) r before after

-- ---- what the answers of check and populate mean

-- 'every diagram, table or text, with no fault of form (refusals 1 to 6)': the table of a well-formed diagram, and that diagram
pub record TableOf (t : List ℕ) : Type 0 where
  pub diagram : Diagram
  pub same_table : t ≡ table diagram
  pub well_formed : WellFormed diagram

-- 'Check and fill alike refuse the diagram as emptied, with the set and round of document 01, exactly when no population meets them all'; the
-- buffer stays
pub record Emptied (t : List ℕ) (set round : ℕ) (before after : List ℕ) : Type 0 where
  pub of : TableOf t
  pub none : NoPopulation of.diagram
  pub at : EmptiedAt of.diagram set round
  pub kept : after ≡ before

-- What a call makes of the settled sizes of a diagram
abbrev pub Making : Type 0
Making = Diagram → List ℕ → List ℕ

-- A population exists, and the buffer is too short for what is made of the settled sizes; it stays. `Populated` says that these sizes are those
-- of a population, and the greatest
pub record Lacks (t : List ℕ) (make : Making) (needed : ℕ) (before after : List ℕ) : Type 0 where
  pub of : TableOf t
  pub populated : Populated t of.diagram
  pub length_needed : needed ≡ length (make of.diagram populated.settled)
  pub short : length before < needed
  pub kept : after ≡ before

-- 'Otherwise, if the lent space is long enough': a population exists, and what is made of the settled sizes stands at the front of the buffer,
-- with the rest as it was
pub record Written (t : List ℕ) (make : Making) (n rounds : ℕ) (before after : List ℕ) : Type 0 where
  pub of : TableOf t
  pub populated : Populated t of.diagram
  pub rounds_made : rounds ≡ populated.rounds
  pub length_written : n ≡ length (make of.diagram populated.settled)
  pub front : after ≡ make of.diagram populated.settled ++ drop n before

-- A table that is refused with 1 to 6 is that of no well-formed diagram, and the buffer stays; with 7 or 8, or accepted, it is the table of one; no
-- other refusal is given
abbrev pub Means : List ℕ → Making → Result bounds.Written Refusal → List ℕ → List ℕ → Type 0
Means t make (Err (refusals.Faulty f line)) before after = (TableOf t → ⊥) × (after ≡ before)
Means t make (Err (refusals.Emptied set round)) before after = Emptied t set round before after
Means t make (Err (refusals.TooShort needed)) before after = Lacks t make needed before after
Means t make (Err (refusals.Cells at)) before after = ⊥
Means t make (Err (refusals.NoSuch number)) before after = ⊥
Means t make (Err (refusals.Impossible set round)) before after = ⊥
Means t make (Ok w) before after = Written t make w.length w.rounds before after

-- 'check writes the settled sizes', 'and fill writes the cells of document 01's filling'
abbrev pub settled_sizes : Making
settled_sizes d c = c

pub record TableMeans (t : List ℕ) : Type 0 where
  -- 'After every number of rounds, none included, no population that meets all the diagram's constraints has more members in any set than the
  -- ceiling then standing'
  pub bounded : (x : TableOf t) (rounds : ℕ) (s : List ℕ) (o : ValidPopulation x.diagram s)
      → sizes x.diagram o.population ≼ upper_after_rounds x.diagram rounds
  pub check : (before after : List ℕ) (r : Result bounds.Written Refusal) → HasChecked t before r after → Means t settled_sizes r before after
  pub populate : (before after : List ℕ) (r : Result bounds.Written Refusal) → HasPopulated t before r after → Means t cells_of r before after

-- ---- what the answers of reading mean

-- The text of a well-formed diagram, and that diagram
pub record TextOf (text : List ℕ) : Type 0 where
  pub diagram : Diagram
  pub same_text : text ≡ render diagram
  pub well_formed : WellFormed diagram

-- 'From such a text reading makes the table with the same numbers, if the lent space is long enough'
pub record TableRead (text : List ℕ) (n : ℕ) (before after : List ℕ) : Type 0 where
  pub of : TextOf text
  pub length_read : n ≡ length (table of.diagram)
  pub front : after ≡ table of.diagram ++ drop n before

pub record TableLacks (text : List ℕ) (needed : ℕ) (before after : List ℕ) : Type 0 where
  pub of : TextOf text
  pub length_needed : needed ≡ length (table of.diagram)
  pub short : length before < needed
  pub kept : after ≡ before

-- A text that is refused with 1 to 6 is that of no well-formed diagram, and the buffer stays; with 8, or accepted, it is the text of one; no other
-- refusal is given
abbrev pub ReadMeans : List ℕ → Result ℕ Refusal → List ℕ → List ℕ → Type 0
ReadMeans text (Err (refusals.Faulty f line)) before after = (TextOf text → ⊥) × (after ≡ before)
ReadMeans text (Err (refusals.TooShort needed)) before after = TableLacks text needed before after
ReadMeans text (Err (refusals.Emptied set round)) before after = ⊥
ReadMeans text (Err (refusals.Cells at)) before after = ⊥
ReadMeans text (Err (refusals.NoSuch number)) before after = ⊥
ReadMeans text (Err (refusals.Impossible set round)) before after = ⊥
ReadMeans text (Ok n) before after = TableRead text n before after

-- ---- the statement

pub record Demand3 : Type 0 where
  -- every text, buffer and answer of reading
  pub of_text : (text before after : List ℕ) (r : Result ℕ Refusal) → HasRead text before r after → ReadMeans text r before after
  -- every table, buffer and answer of check and populate; the table that was read is one
  pub of_table : (t : List ℕ) → TableMeans t
