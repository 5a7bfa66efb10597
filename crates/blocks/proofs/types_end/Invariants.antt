-- What is left of the walk comes to the whole.
use Rattle.blocks.specs.Starts.{Walk}
use Rattle.blocks.proofs.types_end.Given as goal

abbrev pub invariant-loop-k : goal.invariant-loop-k
invariant-loop-k l = Walk l.t l.cells l.initial.starts 0 0 l.starts l.k l.at
