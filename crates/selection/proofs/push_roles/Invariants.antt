use Rattle.std.proofs.Common.{drop}
use Rattle.orm.specs.Sets.{roles_in_group}
use Rattle.table.specs.Positions.{roles_in}
use Rattle.buffer.specs.Written.{Wrote}
use Rattle.selection.proofs.push_roles.Given as goal

abbrev pub invariant-loop-i : goal.invariant-loop-i
invariant-loop-i l = Wrote l.initial.out (roles_in_group l.number l.first (roles_in l.i (drop l.q l.t))) l.out
