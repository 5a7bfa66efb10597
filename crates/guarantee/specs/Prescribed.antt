-- S-1, 'A book with exactly so many' (document 02), as one statement over the definitions of the calls: the record `Prescribed` at the end of this file,
-- with its one proof in `proofs/Prescribed/Proof`. The request, quoted at its fields:
--
--     Given a set number and a wanted size, produce a population (in these requests: one that meets all its diagram's constraints) in which that
--     set has just that size, the others as large as they can then be, or say that none exists. Before the rounds the set's floor becomes the
--     larger of itself and the wanted size, and its starting ceiling the smaller; the rest is the fill. Refusal as impossible happens for precisely
--     those sizes that no population of the diagram has in that set. Errors: 10 set number 0 or past the last, after 6, its place that number; 11
--     no such population, in place of 7 and with the set and round that 7 would carry.
--
-- It holds of every table, set number, wanted size and buffer, with no assumption. A population is one of the unchanged diagram.
use Rattle.std.specs.Prelude.{ℕ, ◌<◌, ◌≡◌, ◌⊎◌, List, get_or}
use Rattle.fixpoint.specs.Notions.{◌≼◌}
use Rattle.orm.specs.Diagram.{Diagram, index}
use Rattle.orm.specs.Text.{table_line}
use Rattle.orm.specs.Sets.{set_count, lower, upper}
use Rattle.orm.specs.Population.{cells}
use Rattle.orm.specs.Populate.{population}
use Rattle.orm.specs.Constraints.{sizes}
use Rattle.orm.specs.Outcome.{refused, accepted}
use Rattle.orm.specs.Calls.{diagram_in}
use Rattle.orm.specs.Prescribe.{raised_at, capped_at, prescribe_call}
use Rattle.orm.specs.Meaning.{Between, ValidPopulation}
use Rattle.guarantee.specs.Settling.{RefusesBy, SettledFrom, Writes}
use Rattle.guarantee.specs.Guarantee.{NoPopulation, Populated, FaultOfForm}

-- 'a population (in these requests: one that meets all its diagram's constraints) in which that set has just that size'; sets count from 1
pub record Having (d : Diagram) (number wanted : ℕ) (s : List ℕ) : Type 0 where
  pub meets : ValidPopulation d s
  pub that_many : get_or (sizes d meets.population) (index number) 0 ≡ wanted

abbrev pub NoneHaving : Diagram → ℕ → ℕ → Type 0
NoneHaving d number wanted = (s : List ℕ) → ¬ Having d number wanted s

-- The bounds that the rounds start from
abbrev pub lower_for : Diagram → ℕ → ℕ → List ℕ
lower_for d number wanted = raised_at (index number) wanted (lower d)

abbrev pub upper_for : Diagram → ℕ → ℕ → List ℕ
upper_for d number wanted = capped_at (index number) wanted (upper d)

-- A population is written
pub record Produced (t : List ℕ) (d : Diagram) (number wanted : ℕ) : Type 0 where
  pub rounds : ℕ
  pub settled : List ℕ
  pub settled_after : SettledFrom d (lower_for d number wanted) (upper_for d number wanted) rounds settled
  -- 'the rest is the fill'
  pub writes : Writes (prescribe_call t number wanted) rounds (cells (population d settled))
  -- 'in which that set has just that size'
  pub cells_have : Having d number wanted (cells (population d settled))
  pub exact : sizes d cells_have.meets.population ≡ settled
  -- 'the others as large as they can then be'
  pub greatest : (s : List ℕ) (o : Having d number wanted s) → sizes d o.meets.population ≼ settled

-- Of a table of the diagram and a number of one of its sets
pub record PrescribedIn (t : List ℕ) (d : Diagram) (number wanted : ℕ) : Type 0 where
  -- 'Refusal as impossible happens for precisely those sizes that no population of the diagram has in that set'; '11 .. with the set and round that
  -- 7 would carry', from the changed bounds; whatever the buffer
  pub refuses : RefusesBy 11 d (lower_for d number wanted) (upper_for d number wanted) (NoneHaving d number wanted) (prescribe_call t number wanted)
  -- 'in place of 7': also where the diagram has no population at all
  pub no_seven : (space place round : ℕ) → ¬ (prescribe_call t number wanted space ≡ refused 7 place round)
  pub emptied : NoPopulation d → NoneHaving d number wanted
  pub otherwise : ¬ NoneHaving d number wanted → Produced t d number wanted
  -- A size below the set's lower bound or above its starting upper bound is refused before the rounds; so is 0
  pub left_out : (wanted < get_or (lower d) (index number) 0) ⊎ (get_or (upper d) (index number) 0 < wanted) → (space : ℕ)
      → (place : ℕ) × (prescribe_call t number wanted space ≡ refused 11 place 0)
  pub zero : wanted ≡ 0 → (space : ℕ) → (place : ℕ) × (prescribe_call t number wanted space ≡ refused 11 place 0)
  -- With the size that the set settles at by itself the population is that of populating
  pub as_populate : (p : Populated t d) → get_or p.settled (index number) 0 ≡ wanted
      → (q : Produced t d number wanted) × (q.settled ≡ p.settled)

pub record Prescribed : Type 0 where
  pub of_table : (t : List ℕ) (d : Diagram) → diagram_in table_line t ≡ accepted d
      → (number wanted : ℕ) → Between 1 number (set_count d) → PrescribedIn t d number wanted
  -- '10 set number 0 or past the last, after 6, its place that number'
  pub other_numbers : (t : List ℕ) (d : Diagram) → diagram_in table_line t ≡ accepted d
      → (number wanted : ℕ) → ¬ Between 1 number (set_count d) → (space : ℕ) → prescribe_call t number wanted space ≡ refused 10 number 0
  -- any other table has a fault of form, for which it is refused
  pub other_tables : (t : List ℕ) → ((d : Diagram) → ¬ (diagram_in table_line t ≡ accepted d))
      → (number wanted : ℕ) → FaultOfForm (prescribe_call t number wanted)
