-- `cases::push_joined` meets its contract.
use Rattle.std.proofs.Common.{map, take}
use Rattle.buffer.specs.Written.{Wrote}
use Rattle.cases.specs.Lines.{joint}
use Rattle.cases.proofs.push_joined.Given as goal

abbrev pub invariant-loop-b : goal.invariant-loop-b
invariant-loop-b l = Wrote l.initial.out (map joint (take l.b-index l.lines)) l.out
