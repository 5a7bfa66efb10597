-- The table of multiples (document 02, S-12) as a text, and the numbers that a text of lines has.
use Rattle.std.specs.Prelude.{ℕ, zero, suc}
use mathlib.Core.List.{List, [], ◌++◌, flat_map}
use Rattle.pairing.specs.Multiples.{multiple_rows}
use Rattle.orm.specs.Reader.{Cut, broken, cut}
use Rattle.orm.specs.Text.{values_text, numbers}

-- 'its output, a line for each row with commas between'; a line feed ends each, also the last
unfoldable pub multiples_text : List ℕ
multiples_text = flat_map values_text multiple_rows

-- The numbers of `n` lines of `k` numbers each, and what follows them
unfoldable pub line_numbers : ℕ → ℕ → List ℕ → Cut
line_numbers k zero s = cut [] s
line_numbers k (suc n) s =
    elim (numbers k s) [
      | broken ↦ broken
      | cut v rest ↦ elim (line_numbers k n rest) [ broken ↦ broken | cut vs end ↦ cut (v ++ vs) end ]
    ]
