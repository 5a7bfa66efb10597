-- `blocks::cut` meets its contract. Each arm is one of the ways in which the blocks end.
use Rattle.blocks.specs.Cuts.{cells-surplus, cells-short, cells_whole}
use Rattle.std.proofs.Common.{rules}
use Rattle.blocks.proofs.cut.Goals as goal

pub returns-then-end-cells : goal.returns-then-end-cells
returns-then-end-cells c = search (rules, cells-surplus)

pub returns-then-cells-end : goal.returns-then-cells-end
returns-then-cells-end c = search (rules, cells-short)

pub returns : goal.returns
returns c = search (rules, cells_whole)
