-- What is printed of a case: lines joined into one, and the answer of a comparison.
use Rattle.std.specs.Prelude.{ℕ, Bool, true, false, List, nat_eq, map, if◌then◌else◌}
use Rattle.orm.specs.Text.{bytes}

-- `;` for a line feed
abbrev pub joint : ℕ → ℕ
joint b = if nat_eq b 10 then 59 else b

-- Lines joined into one
abbrev pub joined : List ℕ → List ℕ
joined lines = map joint lines

-- The answer of a comparison, in words
unfoldable pub comparison : Bool → List ℕ
comparison true = bytes "same"
comparison false = bytes "differs"
