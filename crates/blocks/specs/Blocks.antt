-- A population read off cells by positions, for every list of cells: what is not there is missing. Cuts.antt shows that cells that can be cut
-- give the population that cutting gives.
-- Code that walks cells stands at a position `at`; what it reads there is a definition of the list `drop at s`.
use Rattle.std.specs.Prelude.{ℕ, suc, ◌+◌, ◌*◌, List, [], ◌∷◌, ◌++◌, Option, Some, None, map, length, get_or, take, drop}
use Rattle.orm.specs.Diagram.{ObjectType, Predicate, Diagram}
use Rattle.orm.specs.Population.{Population, rows_of}
use Rattle.orm.specs.Outcome.{Outcome, refused, accepted}

-- How many cells the block that starts here takes, with entries of `width` cells
abbrev pub block_length : ℕ → List ℕ → ℕ
block_length width s = suc (get_or s 0 0 * width)

-- More than a block takes, of fewer than 2^32 entries with fewer than 10^6 cells each
abbrev pub most_cells : ℕ
most_cells = 4294967296000000

-- The values of a type, and the rows of a predicate with so many roles, whose block starts here
abbrev pub members_at : List ℕ → List ℕ
members_at s = take (get_or s 0 0) (drop 1 s)

abbrev pub rows_at : ℕ → List ℕ → List (List ℕ)
rows_at width s = rows_of (get_or s 0 0) width (drop 1 s)

-- Where blocks of these widths end that stand from `at` on; a size cell that is missing reads as 0
unfoldable pub end_of : List ℕ → List ℕ → ℕ → ℕ
end_of s [] at = at
end_of s (w ∷ ws) at = end_of s ws (at + block_length w (drop at s))

-- A block for each element, one behind the other: `width` of an element's block, and what it holds
module _ {X A : Type 0} (width : X → ℕ) (content : X → List ℕ → A) where
  unfoldable pub contents : List X → List ℕ → List A
  contents [] s = []
  contents (x ∷ xs) s = content x s ∷ contents xs (drop (block_length (width x) s) s)

abbrev pub type_width : ObjectType → ℕ
type_width t = 1

abbrev pub pred_width : Predicate → ℕ
pred_width p = length p.roles

abbrev pub members_in : List ObjectType → List ℕ → List (List ℕ)
members_in ts s = contents type_width (λ (t : ObjectType). members_at) ts s

abbrev pub rows_in : List Predicate → List ℕ → List (List (List ℕ))
rows_in ps s = contents pred_width (λ (p : Predicate). rows_at (pred_width p)) ps s

-- The first predicate's block and the others
unfoldable pub behind_types : Diagram → List ℕ → List ℕ
behind_types d s = drop (end_of s (map type_width d.types) 0) s

unfoldable pub population_at : Diagram → List ℕ → Population
population_at d s = record { types = members_in d.types s; preds = rows_in d.preds (behind_types d s) }

-- The width of each block: the types' and then the predicates'
unfoldable pub block_widths : Diagram → List ℕ
block_widths d = map type_width d.types ++ map pred_width d.preds

-- Where blocks of these widths start that stand from `at` on, and the end
unfoldable pub starts_of : List ℕ → List ℕ → ℕ → List ℕ
starts_of s [] at = at ∷ []
starts_of s (w ∷ ws) at = at ∷ starts_of s ws (at + block_length w (drop at s))

-- Document 01's number and place of cells that can't be cut
abbrev pub extent_of : Population → Option ℕ → Outcome Population
extent_of o None = accepted o
extent_of o (Some at) = refused 9 at 0
