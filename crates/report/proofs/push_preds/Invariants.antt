-- `report::push_preds` meets its contract. The predicates left come to the whole.
use Rattle.std.proofs.Common.{◌+◌, ◌-◌, ◌*◌, ◌≤◌, drop}
use Rattle.buffer.specs.Written.{Writing}
use Rattle.table.specs.Positions.{preds_in, diagram_of}
use Rattle.table.specs.Cursors.{Ahead}
use Rattle.report.specs.Printed.{pred_lines}
use Rattle.report.proofs.push_preds.Given as goal

abbrev pub invariant-loop-i : goal.invariant-loop-i
invariant-loop-i l = record {
  ahead : Ahead l.t l.q (l.count - l.i);
  near : l.p ≤ (l.i + 1) * (4294967296 * 1000000);
  writing : Writing l.initial.out (pred_lines 1 (diagram_of l.t).preds (drop l.first l.cells)) l.out
      (pred_lines (l.i + 1) (preds_in (l.count - l.i) (drop l.q l.t)) (drop l.p l.cells));
}
