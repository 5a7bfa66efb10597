-- The values from the last on were looked up.
use Rattle.columns.specs.Values.{values_in}
use Rattle.lookup.proofs.Walks.{Meeting}
use Rattle.lookup.proofs.meet.Given as goal

abbrev pub invariant-loop-i : goal.invariant-loop-i
invariant-loop-i l = Meeting (values_in l.values) l.list l.initial.marks l.stamp l.marks l.i l.met
