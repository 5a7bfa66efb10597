-- What is left of the walk comes to the whole.
use Prim.Native.Nat.{◌-◌}
use Rattle.table.specs.Positions.{type_count}
use Rattle.blocks.specs.Starts.{Walk, Pending}
use Rattle.blocks.proofs.end_of_blocks.Given as goal

abbrev pub invariant-loop-k : goal.invariant-loop-k
invariant-loop-k l =
    record {
      pending : Pending l.t l.pred l.k (l.end - l.k);
      walk : Walk l.t l.cells l.initial.starts (type_count l.t) l.initial.at l.starts l.k l.at;
    }
