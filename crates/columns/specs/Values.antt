-- What columns and rows hold, for every slice of cells: what is not there reads as 0.
use Rattle.std.specs.Prelude.{ℕ, zero, suc, ◌≡◌, refl, Bool, List, [], ◌∷◌, map, length, get_or, take, drop, ◌*◌}
use Rattle.std.proofs.Common.{ap}
use Rattle.counting.specs.Lists.{same, combination}
use Rattle.counting.specs.Distinct.{all, occurrences}
use Rattle.orm.specs.Form.{◌to◌, in_range}
use Rattle.orm.specs.Population.{rows_of}
use Rattle.columns.specs.declared.column.Column.{Column}
use Rattle.columns.specs.declared.Rows.{Rows}

-- `n` numbers, `step` cells apart
unfoldable pub spaced : ℕ → ℕ → List ℕ → List ℕ
spaced zero step s = []
spaced (suc n) step s = get_or s 0 0 ∷ spaced n step (drop step s)

abbrev pub values_in : Column → List ℕ
values_in c = spaced c.count c.step (drop c.start c.cells.now)

pub length-spaced : (n step : ℕ) (s : List ℕ) → length (spaced n step s) ≡ n
unfolding spaced
length-spaced zero step s = refl
length-spaced (suc n) step s = ap suc (length-spaced n step (drop step s))

-- What the columns `js` hold, row by row
unfoldable pub keys_of : ℕ → ℕ → List ℕ → List ℕ → List (List ℕ)
keys_of n width js s = map (combination js) (rows_of n width s)

abbrev pub keys_in : Rows → List ℕ → List (List ℕ)
keys_in r js = keys_of r.count r.width js (drop r.start r.cells.now)

-- What the row with this number, counted from 0, holds in the columns `js`: its key
unfoldable pub key_of : Rows → List ℕ → ℕ → List ℕ
key_of r js x = combination js (take r.width (drop (x * r.width) (drop r.start r.cells.now)))

-- Each of `ks` occurs `low` to `high` times among `all-ks`
unfoldable pub occurring : ℕ → ℕ → List (List ℕ) → List (List ℕ) → Bool
occurring low high all-ks ks = all (λ (v : List ℕ). in_range (low to high) (occurrences same v all-ks)) ks
