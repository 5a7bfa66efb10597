-- What is printed of cells, by positions: what is not there reads as 0. `Laws/Printed` shows that of a population's cells it is document 01's
-- report.
use Rattle.std.specs.Prelude.{ℕ, zero, suc, ◌+◌, ◌*◌, List, [], ◌∷◌, ◌++◌, length, get_or, drop}
use Rattle.orm.specs.Diagram.{Predicate, Diagram}
use Rattle.orm.specs.Text.{bytes}
use Rattle.numerals.specs.Lines.{numbers_from, keyed, keyed_lines}

-- The lines of `n` types, whose cells start here
unfoldable pub type_lines : ℕ → List ℕ → List ℕ
type_lines zero s = []
type_lines (suc n) s = keyed (bytes "type=") (numbers_from (drop 1 s) 0 (get_or s 0 0)) ++ type_lines n (drop (1 + get_or s 0 0) s)

-- Where the cells of `n` types end that start at `p`
unfoldable pub types_end : ℕ → ℕ → List ℕ → ℕ
types_end zero p s = p
types_end (suc n) p s = types_end n (p + (1 + get_or (drop p s) 0 0)) s

-- The lines of one predicate: its number, and so many rows, which start here
unfoldable pub pred_block : ℕ → ℕ → ℕ → List ℕ → List ℕ
pred_block number width size s = keyed (bytes "pred=") (number ∷ []) ++ keyed_lines (bytes "row=") width size s

-- The lines of predicates from this number on, whose cells start here
unfoldable pub pred_lines : ℕ → List Predicate → List ℕ → List ℕ
pred_lines number [] s = []
pred_lines number (x ∷ xs) s =
    pred_block number (length x.roles) (get_or s 0 0) (drop 1 s)
    ++ pred_lines (suc number) xs (drop (1 + get_or s 0 0 * length x.roles) s)

-- The rounds, and the sizes of all sets
unfoldable pub size_lines : ℕ → List ℕ → List ℕ
size_lines rounds sizes = keyed (bytes "rounds=") (rounds ∷ []) ++ keyed_lines (bytes "size=") 1 (length sizes) sizes

-- All types, so many, and all predicates
unfoldable pub cell_lines : Diagram → ℕ → List ℕ → List ℕ
cell_lines d types cells = type_lines types cells ++ pred_lines 1 d.preds (drop (types_end types 0 cells) cells)

unfoldable pub printed : Diagram → ℕ → ℕ → List ℕ → List ℕ → List ℕ
printed d types rounds sizes cells = size_lines rounds sizes ++ cell_lines d types cells
