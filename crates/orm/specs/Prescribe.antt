-- A population in which one set has just the size that is wanted (document 02, S-1). The refusals stand in their order.
use Rattle.std.specs.Prelude.{ℕ, min, max, true, false, List, get_or, set}
use Rattle.orm.specs.Diagram.{Diagram, index}
use Rattle.orm.specs.Form.{◌to◌, in_range}
use Rattle.orm.specs.Text.{table_line}
use Rattle.orm.specs.Sets.{set_count, lower, upper, verdict_from}
use Rattle.orm.specs.Population.{cells}
use Rattle.orm.specs.Populate.{population}
use Rattle.orm.specs.Outcome.{Outcome, refused, accepted, ◌>>=◌, Sized}
use Rattle.orm.specs.Calls.{diagram_in, settled_into}

-- '10 set number 0 or past the last, after 6, its place that number'; else the set with this number, as an index
unfoldable pub set_in : Diagram → ℕ → Outcome ℕ
set_in d number = elim (in_range (1 to set_count d) number) [ true ↦ accepted (index number) | false ↦ refused 10 number 0 ]

-- 'Before the rounds the set's floor becomes the larger of itself and the wanted size'
unfoldable pub raised_at : ℕ → ℕ → List ℕ → List ℕ
raised_at s wanted low = set low s (max (get_or low s 0) wanted)

-- 'and its starting ceiling the smaller'
unfoldable pub capped_at : ℕ → ℕ → List ℕ → List ℕ
capped_at s wanted high = set high s (min (get_or high s 0) wanted)

-- 'the rest is the fill'; '11 no such population, in place of 7 and with the set and round that 7 would carry'
unfoldable pub prescribe_call : List ℕ → ℕ → ℕ → ℕ → Outcome Sized
prescribe_call t number wanted space = do
  d ← diagram_in table_line t
  s ← set_in d number
  settled_into 11 (λ c. cells (population d c)) (verdict_from d (raised_at s wanted (lower d)) (capped_at s wanted (upper d))) space
