-- S-1, 'A book with exactly so many' (document 02), on running code: what the four numbers of `legshorgan_prescribe` tell, and of the array that it
-- writes, `before` and `after`. The contract of the call ensures it, for every input; the proof is in `Prescribed/Proof`.
use Rattle.std.specs.Prelude.{ℕ, ◌<◌, ◌≡◌, List, [], ◌∷◌, ◌++◌, length, drop}
use Rattle.orm.specs.Sets.{set_count}
use Rattle.orm.specs.Meaning.{Between}
use Rattle.guarantee.specs.Settling.{EmptiedFrom}
use Rattle.guarantee.specs.Prescribed.{NoneHaving, lower_for, upper_for, Produced}
use Rattle.populate.specs.Answer.{cells_of}
use Rattle.populate.specs.Demand3.{TableOf}
use Rattle.capi.specs.Ended.{RefusedWith, Faulty}
pub mod Proof

-- A table of a diagram, and a number of one of its sets
pub record SetOf (t : List ℕ) (number : ℕ) : Type 0 where
  pub table : TableOf t
  pub among : Between 1 number (set_count table.diagram)

-- '11 no such population, in place of 7 and with the set and round that 7 would carry', of the rounds from the changed bounds; the array is as it was
pub record Impossible (t : List ℕ) (number wanted : ℕ) (four before after : List ℕ) : Type 0 where
  pub of : SetOf t number
  pub none : NoneHaving of.table.diagram number wanted
  pub set : ℕ
  pub round : ℕ
  pub at : EmptiedFrom of.table.diagram (lower_for of.table.diagram number wanted) (upper_for of.table.diagram number wanted) set round
  pub answer : four ≡ 11 ∷ set ∷ round ∷ 0 ∷ []
  pub kept : after ≡ before

-- 'a population .. in which that set has just that size, the others as large as they can then be' stands at the front of the array, as `Produced` says,
-- with the rounds
pub record Written (t : List ℕ) (number wanted : ℕ) (four before after : List ℕ) : Type 0 where
  pub of : SetOf t number
  pub produced : Produced t of.table.diagram number wanted
  pub answer : four ≡ 0 ∷ 0 ∷ produced.rounds ∷ length (cells_of of.table.diagram produced.settled) ∷ []
  pub front : after
      ≡ cells_of of.table.diagram produced.settled ++ drop (length (cells_of of.table.diagram produced.settled)) before

-- There is one, but the array is too short for it, and is as it was
pub record Lacks (t : List ℕ) (number wanted : ℕ) (four before after : List ℕ) : Type 0 where
  pub of : SetOf t number
  pub produced : Produced t of.table.diagram number wanted
  pub short : length before < length (cells_of of.table.diagram produced.settled)
  pub refused : RefusedWith 8 (length (cells_of of.table.diagram produced.settled)) four before after

-- '10 set number 0 or past the last, after 6, its place that number'
pub record NoSet (t : List ℕ) (number : ℕ) (four before after : List ℕ) : Type 0 where
  pub of : TableOf t
  pub none : ¬ Between 1 number (set_count of.diagram)
  pub refused : RefusedWith 10 number four before after

-- One of these holds; the first of the four numbers tells which
pub data PrescribedTold (t : List ℕ) (number wanted : ℕ) (four before after : List ℕ) : Type 0 where
  impossible : Impossible t number wanted four before after → PrescribedTold t number wanted four before after
  written : Written t number wanted four before after → PrescribedTold t number wanted four before after
  lacks : Lacks t number wanted four before after → PrescribedTold t number wanted four before after
  no_set : NoSet t number four before after → PrescribedTold t number wanted four before after
  faulty : Faulty t four before after → PrescribedTold t number wanted four before after
