-- What populating makes of the settled sizes.
use Rattle.std.specs.Prelude.{ℕ, List}
use Rattle.fixpoint.specs.Limits.{fixpoint}
use Rattle.orm.specs.Diagram.{Diagram}
use Rattle.orm.specs.Population.{cells}
use Rattle.orm.specs.Populate.{population}
use Rattle.orm.specs.Outcome.{Outcome, Sized}
use Rattle.orm.specs.Calls.{settled_into}
use Rattle.table.specs.Positions.{diagram_of}
use Rattle.bounds.specs.Start.{verdict_by}
use Rattle.bounds.specs.declared.Start.{Start}

abbrev pub cells_of : Diagram → List ℕ → List ℕ
cells_of d c = cells (population d c)

-- The outcome of populating a valid table with these sizes, to which so many rounds led
abbrev pub filled : List ℕ → ℕ → List ℕ → ℕ → Outcome Sized
filled t rounds c space = settled_into 7 (cells_of (diagram_of t)) (fixpoint rounds c) space

-- The outcome of populating a valid table, with the rounds from these bounds
abbrev pub populated : Start → List ℕ → ℕ → Outcome Sized
populated x t space = settled_into 7 (cells_of (diagram_of t)) (verdict_by x (diagram_of t)) space
