-- S-14, 'Average use on the panel' (document 02), as one statement over the definitions of the calls: the record `Averages` at the end of this file,
-- with its one proof in `proofs/Averages/Proof`. The request, quoted at its fields:
--
--     For each group give r divided by q, both as settled: a whole number where it divides evenly, otherwise the 64-bit float from one division of
--     the two sizes (IEEE 754, nearest even). In each case r is at least FMIN times q and at most FMAX times q, as whole numbers. This covers each
--     accepted diagram of both kinds. A group is asked for by its set number; a number of no group is 10, after 6, its place that number; then 7.
--
-- It holds of every table and every number, with no assumption. r is the size of the group's own predicate and q that of the group.
use Rattle.std.specs.Prelude.{ℕ, suc, ◌+◌, ◌*◌, ◌≤◌, ◌≡◌, ◌↔◌, false, List, map, Float, length}
use Rattle.std.specs.Float.{nan, binary64}
use Rattle.std.specs.Float.Ieee.{round}
use Rattle.counting.specs.Lists.{up_from}
use Rattle.counting.specs.Terms.{◌∈◌}
use Rattle.counting.specs.Index.{At}
use Rattle.orm.specs.Diagram.{Diagram, all_groups}
use Rattle.orm.specs.Text.{table_line}
use Rattle.orm.specs.Sets.{Placed, placed, group_set, first_group}
use Rattle.orm.specs.Populate.{size}
use Rattle.orm.specs.Outcome.{refused, accepted}
use Rattle.orm.specs.Calls.{diagram_in}
use Rattle.orm.specs.Average.{PlacedGroup, placed_groups, Average, whole, fraction, float_quotient, average_of, average_call}
use Rattle.guarantee.specs.Guarantee.{NoPopulation, EmptiedAt, Populated, FaultOfForm}

-- A group and its own predicate: the group stands at this place among those of the predicate, and both have the sets that the limits have for them
pub record OwnPredicate (d : Diagram) (g : PlacedGroup) : Type 0 where
  pub of : Placed
  pub among : of ∈ placed d
  pub place : ℕ
  pub same_group : At g.frequency of.predicate.groups place
  pub same_set : g.own ≡ group_set of (1 + place)
  pub same_predicate : g.predicate ≡ of.own

-- 'otherwise the 64-bit float from one division of the two sizes (IEEE 754, nearest even)'
pub record Rounded (x : Float) (r q : ℕ) : Type 0 where
  pub unevenly : (n : ℕ) → ¬ (r ≡ n * q)
  pub divided : x ≡ float_quotient r q
  -- it is the float nearest to the fraction r / q, of two the even one: neither size is rounded, and the quotient once
  pub nearest : x ≡ round binary64 false r q
  pub number : ¬ (x ≡ nan)

-- 'r divided by q': 'a whole number where it divides evenly'
abbrev pub Says : Average → ℕ → ℕ → Type 0
Says (whole n) r q = r ≡ n * q
Says (fraction x) r q = Rounded x r q

-- The average use of a group
pub record Averaged (t : List ℕ) (d : Diagram) (g : PlacedGroup) : Type 0 where
  -- 'both as settled': the sizes that check writes
  pub populated : Populated t d
  pub r : ℕ
  pub q : ℕ
  pub of_predicate : r ≡ size populated.settled g.predicate
  pub of_group : q ≡ size populated.settled g.own
  -- 'give r divided by q'
  pub gives : average_call t (suc g.own) ≡ accepted (average_of r q)
  pub says : Says (average_of r q) r q
  -- so that it is divided by no zero
  pub positive : 1 ≤ q
  -- 'In each case r is at least FMIN times q and at most FMAX times q, as whole numbers'
  pub least : g.frequency.fmin * q ≤ r
  pub most : r ≤ g.frequency.fmax * q

-- Of a table of the diagram and one of its groups
pub record AverageIn (t : List ℕ) (d : Diagram) (g : PlacedGroup) : Type 0 where
  -- 'then 7': exactly when the diagram has no population, with the set and round of document 01
  pub refuses : ((place : ℕ) × (round : ℕ) × (average_call t (suc g.own) ≡ refused 7 place round)) ↔ NoPopulation d
  pub set_and_round : (place round : ℕ) → average_call t (suc g.own) ≡ refused 7 place round → EmptiedAt d place round
  pub otherwise : ¬ NoPopulation d → Averaged t d g

pub record Averages : Type 0 where
  -- 'This covers each accepted diagram of both kinds'
  pub of_table : (t : List ℕ) (d : Diagram) → diagram_in table_line t ≡ accepted d → (g : PlacedGroup) → g ∈ placed_groups d → AverageIn t d g
  -- 'A group is asked for by its set number': the groups are the last sets, in file order, with their frequencies
  pub numbers : (d : Diagram) → map (λ (g : PlacedGroup). g.own) (placed_groups d) ≡ up_from (first_group d) (length (all_groups d))
  pub frequencies : (d : Diagram) → map (λ (g : PlacedGroup). g.frequency) (placed_groups d) ≡ all_groups d
  -- r is the size of the group's own predicate
  pub own_predicates : (d : Diagram) (g : PlacedGroup) → g ∈ placed_groups d → OwnPredicate d g
  -- 'a number of no group is 10, after 6, its place that number', also where the diagram has no population
  pub other_numbers : (t : List ℕ) (d : Diagram) → diagram_in table_line t ≡ accepted d
      → (number : ℕ) → ((g : PlacedGroup) → g ∈ placed_groups d → ¬ (number ≡ suc g.own)) → average_call t number ≡ refused 10 number 0
  -- any other table has a fault of form, for which it is refused
  pub other_tables : (t : List ℕ) → ((d : Diagram) → ¬ (diagram_in table_line t ≡ accepted d))
      → (number : ℕ) → FaultOfForm (λ (space : ℕ). average_call t number)
