-- Words for what single functions write: the numbers of a line, a line, some lines.
use Rattle.std.specs.Prelude.{ℕ, zero, suc, List, [], ◌∷◌, ◌++◌, get_or, drop}
use Rattle.orm.specs.Text.{values_text}

-- `n` numbers from the index `i` on; what is not there reads as 0
unfoldable pub numbers_from : List ℕ → ℕ → ℕ → List ℕ
numbers_from s i zero = []
numbers_from s i (suc n) = get_or s i 0 ∷ numbers_from s (suc i) n

-- A line; the key's bytes end with its `=`
unfoldable pub keyed : List ℕ → List ℕ → List ℕ
keyed k vs = k ++ values_text vs

-- `count` lines of `n` numbers each
unfoldable pub keyed_lines : List ℕ → ℕ → ℕ → List ℕ → List ℕ
keyed_lines k n zero s = []
keyed_lines k n (suc count) s = keyed k (numbers_from s 0 n) ++ keyed_lines k n count (drop n s)
