-- `limits::ranges::push_pred_lowers` meets its contract. The bounds of the predicates left come to the whole.
use Prim.Native.Nat.{◌-◌}
use mathlib.Core.List.{map}
use lib.ListN.{drop}
use Rattle.orm.specs.Diagram.{Predicate}
use Rattle.table.specs.Positions.{preds_in, diagram_of}
use Rattle.table.specs.Cursors.{Ahead}
use Rattle.buffer.specs.Written.{Writing}
use Rattle.limits.proofs.ranges.push_pred_lowers.Given as goal

abbrev pub invariant-loop : goal.invariant-loop
invariant-loop l =
    Ahead l.t l.p (l.count - l.counter)
    × Writing l.initial.out (map (λ (x : Predicate). x.min) (diagram_of l.t).preds) l.out
    (map (λ (x : Predicate). x.min) (preds_in (l.count - l.counter) (drop l.p l.t)))
