-- The sizes that the rounds settle on are small enough to be populated with.
use Rattle.std.specs.Prelude.{ℕ, List}
use Rattle.table.specs.Positions.{diagram_of}
use Rattle.tuples.specs.Steps.{Small}
use Rattle.bounds.specs.Answer.{Settled}
use Rattle.bounds.specs.Laws.Starts.{starts-inside}
use Rattle.bounds.specs.Laws.Sizes.{sizes-small}
use Rattle.bounds.specs.declared.Start.{Start}

pub settled-small : {x : Start} {t c : List ℕ} {rounds : ℕ} → Settled x t c rounds → Small c
settled-small {x} {t} s = record { at = sizes-small (diagram_of t) s.valid.formed (starts-inside x (diagram_of t) s.starts) s.ended }
