-- The walk over the lines from a place on.
use Rattle.std.specs.Prelude.{ℕ, suc, List}
use Rattle.orm.specs.Diagram.{LineKind}
use Rattle.orm.specs.Reader.{Cut}
use Rattle.reading.specs.Walk.{Walk, nothing_left, from_end, groups_then, roles_then, from_preds, from_preds_line, from_types, from_types_line, from_start}
use Rattle.grammar.specs.declared.Counts.{Counts}
use Rattle.grammar.specs.declared.Block.{Block}
use Rattle.grammar.specs.declared.Awaited.{Awaited}
use Rattle.grammar.specs.declared.Awaited.TheVariants.{AtDiagram, AtTypes, AtType, AtPreds, AtPred, AtRole, AtFreq, AtEnd, Over}
use Rattle.grammar.specs.Awaited.{totals_of}

-- `next` cuts off the next line
module _ (next : LineKind → List ℕ → Cut) where
  -- The predicates after those that the counts include
  abbrev pub others : Counts → Walk
  others c = from_preds next c.kind (totals_of c) c.left

  abbrev pub groups_of : Block → ℕ → ℕ → Walk
  groups_of b own left = groups_then next b.counts.kind b.first b.roles own left (others b.counts)

  abbrev pub roles_of : Block → ℕ → ℕ → Walk
  roles_of b own left = roles_then next b.counts.kind b.counts.types b.first b.roles b.groups own left (others b.counts)

  -- From a place on
  unfoldable pub from : Awaited → Walk
  from AtDiagram acc = from_start next acc
  from (AtTypes kind) acc = from_types_line next kind acc
  from (AtType kind types own left) acc = from_types next kind types own (suc left) acc
  from (AtPreds kind types) acc = from_preds_line next kind types acc
  from (AtPred c) acc = from_preds next c.kind (totals_of c) (suc c.left) acc
  from (AtRole b left) acc = roles_of b 1 (suc left) acc
  from (AtFreq b own left) acc = groups_of b own (suc left) acc
  from (AtEnd c) acc = from_end next (totals_of c) acc
  from (Over c) acc = nothing_left next (totals_of c) acc
