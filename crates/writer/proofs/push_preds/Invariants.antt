-- `writer::push_preds` meets its contract. The lines of the predicates left come to the whole.
use Rattle.std.proofs.Common.{◌-◌, drop}
use Rattle.table.specs.Positions.{preds_in, diagram_of}
use Rattle.table.specs.Cursors.{Ahead}
use Rattle.buffer.specs.Written.{Writing}
use Rattle.writer.specs.Lines.{pred_lines}
use Rattle.writer.proofs.push_preds.Given as goal

abbrev pub invariant-loop : goal.invariant-loop
invariant-loop l = Ahead l.t l.p (l.count - l.counter) × Writing l.initial.out (pred_lines (diagram_of l.t).kind (diagram_of l.t).preds) l.out
    (pred_lines l.kind (preds_in (l.count - l.counter) (drop l.p l.t)))
