use Rattle.std.proofs.Common.{take}
use Rattle.buffer.specs.Written.{Wrote}
use Rattle.buffer.proofs.output.Output.append.Given as goal

abbrev pub invariant-loop-x : goal.invariant-loop-x
invariant-loop-x g l = Wrote l.initial.self (take l.x-index l.xs) l.self
