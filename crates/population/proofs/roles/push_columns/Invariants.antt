use Rattle.std.proofs.Common.{drop}
use Rattle.buffer.specs.Written.{Wrote}
use Rattle.table.specs.Positions.{roles_in, diagram_of}
use Rattle.population.proofs.RoleLaws.{columns_from}
use Rattle.population.proofs.roles.push_columns.Given as goal

abbrev pub invariant-loop-i : goal.invariant-loop-i
invariant-loop-i l = Wrote l.initial.out (columns_from (diagram_of l.t) l.c l.types l.roles l.x.roles (roles_in l.i (drop l.q l.t))) l.out
