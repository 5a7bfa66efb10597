-- It starts j cells behind the rows, which are there.
use Rattle.blocks.specs.Places.{column-is, column-here}
use Rattle.blocks.specs.Standing.{column-reached}
use Rattle.std.proofs.Common.{arith}
use Rattle.blocks.proofs.pred_block.PredBlock.column.Goals as goal

pub invariant_of-result : goal.invariant_of-result
invariant_of-result c = record {
  reached = column-reached c.args.self.now.table.now _ c.args.self.now.line _ c.args.self.now.here c.args.self.now.wide
      (column-here _ _ _ _ c.next-first.result _ c.requires (omega (arith, c.next-first.ensures.value)) (omega (arith, c.next.ensures.value)) (omega (arith, c.next.ensures.value)) c.size.ensures.value);
}

pub returns-clause-values : goal.returns-clause-values
returns-clause-values c =
    column-is c.args.self.now.cells.now c.args.self.now.at c.args.self.now.width c.args.j c.next-first.result c.next.result c.requires c.next-first.ensures.cells_value c.next.ensures.cells_value c.size.ensures.value

pub returns-clause-column_here : goal.returns-clause-column_here
returns-clause-column_here c =
    column-here _ _ _ _ c.next-first.result _ c.requires (omega (arith, c.next-first.ensures.value)) (omega (arith, c.next.ensures.value)) (omega (arith, c.next.ensures.value)) c.size.ensures.value
