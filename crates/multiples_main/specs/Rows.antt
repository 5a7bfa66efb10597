-- What of the table's text is still to be written.
use Rattle.std.specs.Prelude.{ℕ}
use mathlib.Core.List.{List, map, flat_map}
use Rattle.counting.specs.Lists.{up_from}
use Rattle.pairing.specs.Pairing.{lcm}
use Rattle.orm.specs.Text.{values_text}

-- In the row of `a`, `n` numbers, from that of `b` on
unfoldable pub row_text : ℕ → ℕ → ℕ → List ℕ
row_text a b n = values_text (map (lcm a) (up_from b n))

-- `n` rows, from that of `a` on
unfoldable pub rows_text : ℕ → ℕ → List ℕ
rows_text a n = flat_map values_text (map (λ (a : ℕ). map (lcm a) (up_from 1 64)) (up_from a n))
