use Rattle.std.proofs.Common.{◌≡◌, take}
use Rattle.counting.specs.Lists.{up_from}
use Rattle.selection.proofs.count_up.Given as goal

abbrev pub invariant-loop-i : goal.invariant-loop-i
invariant-loop-i l = take l.i l.numbers ≡ up_from l.first l.i
