-- The numbers of a list, each ended by the byte behind it that is no digit.
use Rattle.std.specs.Prelude.{ℕ, ◌+◌, ◌*◌, ◌-◌, ◌%◌, true, false, List, [], ◌∷◌, ◌++◌}
use Rattle.orm.specs.Text.{is_digit}

-- The value of the number so far behind one more byte, cut to 32 bits; behind its end, that of the next one
unfoldable pub going_on : ℕ → ℕ → ℕ
going_on v b = elim (is_digit b) [ true ↦ (v * 10 + (b - 48)) % 4294967296 | false ↦ 0 ]

-- The number that this byte ends, if it ends one
unfoldable pub ended : ℕ → ℕ → List ℕ
ended v b = elim (is_digit b) [ true ↦ [] | false ↦ v ∷ [] ]

-- The numbers of a text, the first of which has the value `v` so far
unfoldable pub numbers_from : ℕ → List ℕ → List ℕ
numbers_from v [] = []
numbers_from v (b ∷ s) = ended v b ++ numbers_from (going_on v b) s
