-- A table of common multiples, and where the pairing takes its multiples from (document 02, S-12).
use Rattle.std.specs.Prelude.{ℕ, ◌+◌, ◌*◌, ◌-◌, ◌≤◌, Bool, true, false, ◌&&◌, leb, get_or}
use mathlib.Core.List.{List, map, flatten}
use Rattle.counting.specs.Lists.{up_from}
use Rattle.pairing.specs.Pairing.{lcm}

-- 'the least common multiples of 1..64 with 1..64, .. the row by the first'
unfoldable pub multiple_rows : List (List ℕ)
multiple_rows = map (λ (a : ℕ). map (lcm a) (up_from 1 64)) (up_from 1 64)

-- 'a constant table': its numbers, row after row
unfoldable pub multiples : List ℕ
multiples = flatten multiple_rows

-- Its number for `a` and `b`, in the row of `a`
unfoldable pub multiple_at : ℕ → ℕ → ℕ
multiple_at a b = get_or multiples ((a - 1) * 64 + (b - 1)) 0

-- 'where both sizes are 1 to 64'
pub record Listed (a b : ℕ) : Type 0 where
  pub left_least : 1 ≤ a
  pub left_most : a ≤ 64
  pub right_least : 1 ≤ b
  pub right_most : b ≤ 64

-- The same as a test: of one size, and of both
unfoldable pub has_row : ℕ → Bool
has_row a = leb 1 a && leb a 64

unfoldable pub listed : ℕ → ℕ → Bool
listed a b = has_row a && has_row b

-- 'Pairing uses the table where both sizes are 1 to 64'
unfoldable pub pairing_multiple : ℕ → ℕ → ℕ
pairing_multiple s t = elim (listed s t) [ true ↦ multiple_at s t | false ↦ lcm s t ]
