-- S-14, 'Average use on the panel' (document 02), on running code: what the four numbers of `legshorgan_average` tell, and of the caller's float,
-- `before` and `after`. The contract of the call ensures it, for every input; the proof is in `Averaged/Proof`.
use Rattle.std.specs.Prelude.{ℕ, suc, ◌*◌, ◌≡◌, List, [], ◌∷◌, Float}
use Rattle.counting.specs.Terms.{◌∈◌}
use Rattle.orm.specs.Average.{PlacedGroup, placed_groups}
use Rattle.guarantee.specs.Guarantee.{NoPopulation, EmptiedAt}
use Rattle.guarantee.specs.Averages.{Rounded, Averaged}
use Rattle.populate.specs.Demand3.{TableOf}
use Rattle.capi.specs.Ended.{RefusedWith, Faulty}
pub mod Proof

-- 'A group is asked for by its set number': a table of a diagram, and its group with this number
pub record GroupOf (t : List ℕ) (number : ℕ) : Type 0 where
  pub table : TableOf t
  pub group : PlacedGroup
  pub among : group ∈ placed_groups table.diagram
  pub numbered : number ≡ suc group.own

-- 'r divided by q, both as settled: a whole number where it divides evenly'; the float is as it was. `Averaged` says that q is at least 1, and r at
-- least FMIN times q and at most FMAX times q
pub record Wholly (t : List ℕ) (number : ℕ) (four : List ℕ) (before after : Float) : Type 0 where
  pub of : GroupOf t number
  pub averaged : Averaged t of.table.diagram of.group
  pub times : ℕ
  pub evenly : averaged.r ≡ times * averaged.q
  pub answer : four ≡ 0 ∷ 0 ∷ 0 ∷ times ∷ []
  pub kept : after ≡ before

-- 'otherwise the 64-bit float from one division of the two sizes (IEEE 754, nearest even)'
pub record Nearly (t : List ℕ) (number : ℕ) (four : List ℕ) (after : Float) : Type 0 where
  pub of : GroupOf t number
  pub averaged : Averaged t of.table.diagram of.group
  pub rounded : Rounded after averaged.r averaged.q
  pub answer : four ≡ 0 ∷ 0 ∷ 1 ∷ 0 ∷ []

-- 'then 7': the diagram has no population; with the set and round of document 01
pub record Emptied (t : List ℕ) (number : ℕ) (four : List ℕ) (before after : Float) : Type 0 where
  pub of : GroupOf t number
  pub none : NoPopulation of.table.diagram
  pub set : ℕ
  pub round : ℕ
  pub at : EmptiedAt of.table.diagram set round
  pub answer : four ≡ 7 ∷ set ∷ round ∷ 0 ∷ []
  pub kept : after ≡ before

-- 'a number of no group is 10, after 6, its place that number'
pub record NoGroup (t : List ℕ) (number : ℕ) (four : List ℕ) (before after : Float) : Type 0 where
  pub of : TableOf t
  pub none : (g : PlacedGroup) → g ∈ placed_groups of.diagram → ¬ (number ≡ suc g.own)
  pub refused : RefusedWith 10 number four before after

-- One of these holds; the first and the third of the four numbers tell which
pub data AverageTold (t : List ℕ) (number : ℕ) (four : List ℕ) (before after : Float) : Type 0 where
  wholly : Wholly t number four before after → AverageTold t number four before after
  nearly : Nearly t number four after → AverageTold t number four before after
  emptied : Emptied t number four before after → AverageTold t number four before after
  no_group : NoGroup t number four before after → AverageTold t number four before after
  faulty : Faulty t four before after → AverageTold t number four before after
