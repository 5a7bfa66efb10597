use Rattle.std.proofs.Common.{take}
use Rattle.buffer.specs.Written.{Wrote}
use Rattle.selection.specs.Selected.{positions}
use Rattle.selection.proofs.push_of_type.Given as goal

abbrev pub invariant-loop-i : goal.invariant-loop-i
invariant-loop-i l = Wrote l.initial.out (positions l.number l.first (take l.i l.types)) l.out
