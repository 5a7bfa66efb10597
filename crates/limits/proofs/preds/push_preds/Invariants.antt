-- The limits of the predicates left come to the whole.
use mathlib.Core.List.{flat_map}
use Rattle.std.proofs.Common.{◌-◌}
use Rattle.orm.specs.Sets.{limits_of_pred, placed}
use Rattle.table.specs.Positions.{pred_count, diagram_of}
use Rattle.table.specs.Cursors.{Reach}
use Rattle.limits.specs.Encoded.{Encoding}
use Rattle.limits.proofs.Walked.{preds_left}
use Rattle.limits.proofs.preds.push_preds.Given as goal

abbrev pub invariant-loop : goal.invariant-loop
invariant-loop l =
    Reach l.t l.x (pred_count l.t - l.counter)
    × Encoding l.initial.out (flat_map limits_of_pred (placed (diagram_of l.t))) l.out (preds_left l.t l.x l.counter)
