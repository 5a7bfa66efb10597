-- What was noted and marked and the predicates left come to all.
use Rattle.std.proofs.Common.{◌+◌, ◌-◌}
use Rattle.table.specs.Positions.{pred_count}
use Rattle.blocks.specs.Standing.{Standing}
use Rattle.playing.proofs.Walk.{PredsLeft}
use Rattle.playing.proofs.preds_pass.Given as goal

abbrev pub invariant-loop-i : goal.invariant-loop-i
invariant-loop-i l =
    record {
      standing : Standing l.blocks.table.now l.blocks.cells.now l.blocks.starts.now l.line (l.types + l.i) (pred_count l.blocks.table.now - l.i);
      left : PredsLeft l.blocks.table.now l.blocks.cells.now l.blocks.starts.now l.number l.list l.initial.marks l.initial.faults.lowest l.marks
          l.faults.lowest l.line (l.types + l.i) (l.i + 1) (pred_count l.blocks.table.now - l.i);
    }
