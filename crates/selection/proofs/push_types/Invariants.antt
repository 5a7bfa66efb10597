use Rattle.std.proofs.Common.{drop}
use Rattle.table.specs.Positions.{roles_in}
use Rattle.buffer.specs.Written.{Wrote}
use Rattle.selection.specs.Selected.{types_of}
use Rattle.selection.proofs.push_types.Given as goal

abbrev pub invariant-loop-i : goal.invariant-loop-i
invariant-loop-i l = Wrote l.initial.out (types_of (roles_in l.i (drop l.q l.t))) l.out
