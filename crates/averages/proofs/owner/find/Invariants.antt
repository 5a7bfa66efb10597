-- `averages::owner::find` meets its contract. A group with the number is one of the predicates' that are left.
use Rattle.std.proofs.Common.{◌-◌}
use Rattle.table.specs.Positions.{pred_count}
use Rattle.table.specs.Cursors.{Reach}
use Rattle.averages.proofs.Search.{Searching}
use Rattle.averages.proofs.owner.find.Given as goal

abbrev pub invariant-loop : goal.invariant-loop
invariant-loop l = Reach l.t l.x (pred_count l.t - l.counter) × Searching l.t l.number l.x (pred_count l.t - l.counter)
