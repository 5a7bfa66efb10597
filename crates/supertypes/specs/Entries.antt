-- A number of the type at an index, by its position in a table.
use Rattle.std.specs.Prelude.{ℕ, ◌+◌, ◌*◌, true, false, List, ltb, get_or, drop}

-- The number at `i` of the line of one of `count` types, which start behind the first two numbers; 0 of a type that is not there
unfoldable pub entry_at : List ℕ → ℕ → ℕ → ℕ → ℕ
entry_at t count a i = elim (ltb a count) [ true ↦ get_or (drop (2 + 6 * a) t) i 0 | false ↦ 0 ]
