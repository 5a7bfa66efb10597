-- The average use of a group (document 02, S-14): how many rows of its predicate there are on average for each of its combinations. The refusals
-- stand in their order.
use Rattle.std.specs.Prelude.{ℕ, suc, ◌/◌, ◌%◌, true, false, eqb, pos, Float}
use Rattle.std.proofs.Math.Option.{Option, none, some}
use mathlib.Core.List.{List, [], ◌∷◌, flat_map}
use Rattle.std.specs.Float.{binary64}
use Rattle.std.specs.Float.Ieee.{div, of_int}
use Rattle.counting.specs.Lists.{map_from}
use Rattle.orm.specs.Diagram.{Frequency, Diagram}
use Rattle.orm.specs.Text.{table_line}
use Rattle.orm.specs.Sets.{Placed, placed}
use Rattle.orm.specs.Populate.{size}
use Rattle.orm.specs.Outcome.{Outcome, refused, accepted, ◌>>=◌}
use Rattle.orm.specs.Calls.{diagram_in, sizes_of}

-- A group: its set, the set of its own predicate, and its frequency
pub record PlacedGroup : Type 0 where
  pub own : ℕ
  pub predicate : ℕ
  pub frequency : Frequency

-- The groups of a predicate, in file order
unfoldable pub groups_of_placed : Placed → List PlacedGroup
groups_of_placed x = map_from (λ (q : ℕ) (f : Frequency). record { own = q; predicate = x.own; frequency = f }) x.groups x.predicate.groups

-- All groups of the diagram, in file order
unfoldable pub placed_groups : Diagram → List PlacedGroup
placed_groups d = flat_map groups_of_placed (placed d)

-- 'A group is asked for by its set number', from 1
unfoldable pub group_numbered : ℕ → List PlacedGroup → Option PlacedGroup
group_numbered number [] = none
group_numbered number (g ∷ gs) = elim (eqb number (suc g.own)) [ true ↦ some g | false ↦ group_numbered number gs ]

-- 'a number of no group is 10, after 6, its place that number'
unfoldable pub group_in : Diagram → ℕ → Outcome PlacedGroup
group_in d number = elim (group_numbered number (placed_groups d)) [ none ↦ refused 10 number 0 | some g ↦ accepted g ]

-- 'a whole number where it divides evenly, otherwise the 64-bit float'
pub data Average : Type 0 where
  whole : ℕ → Average
  fraction : Float → Average

-- 'the 64-bit float from one division of the two sizes (IEEE 754, nearest even)': each size is such a float itself
unfoldable pub float_quotient : ℕ → ℕ → Float
float_quotient r q = div binary64 (of_int binary64 (pos r)) (of_int binary64 (pos q))

-- 'r divided by q'; settled sizes are at least 1
unfoldable pub average_of : ℕ → ℕ → Average
average_of r q = elim (eqb (r % q) 0) [ true ↦ whole (r / q) | false ↦ fraction (float_quotient r q) ]

-- 'For each group give r divided by q, both as settled'; 'then 7'
unfoldable pub average_call : List ℕ → ℕ → Outcome Average
average_call t number = do
  d ← diagram_in table_line t
  g ← group_in d number
  s ← sizes_of d
  accepted (average_of (size s.result g.predicate) (size s.result g.own))
