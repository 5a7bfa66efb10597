-- What was noted and the predicates left come to all.
use Rattle.std.proofs.Common.{◌≡◌, ◌+◌, ◌-◌, length}
use Rattle.table.specs.Positions.{pred_count}
use Rattle.rows.proofs.Passing.{Noting}
use Rattle.rows.proofs.pass.Given as goal

abbrev pub invariant-loop-i : goal.invariant-loop-i
invariant-loop-i l =
    record {
      list : length l.list ≡ length l.initial.list;
      spare : length l.spare ≡ length l.initial.spare;
      left : Noting l.blocks.table.now l.blocks.cells.now l.blocks.starts.now l.initial.faults.lowest l.faults.lowest l.pred (l.types + l.i) (l.i + 1)
          (pred_count l.blocks.table.now - l.i);
    }
