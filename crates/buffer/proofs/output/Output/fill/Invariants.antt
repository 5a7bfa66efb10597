use Rattle.std.proofs.Common.{replicate}
use Rattle.buffer.specs.Written.{Wrote}
use Rattle.buffer.proofs.output.Output.fill.Given as goal

abbrev pub invariant-loop : goal.invariant-loop
invariant-loop g l = Wrote l.initial.self (replicate l.counter l.x) l.self
