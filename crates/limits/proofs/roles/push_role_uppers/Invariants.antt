-- `limits::roles::push_role_uppers` meets its contract. The bounds of the roles of the predicates left come to the whole.
use Prim.Native.Nat.{◌-◌}
use mathlib.Core.List.{map}
use lib.ListN.{drop}
use Rattle.orm.specs.Diagram.{all_roles}
use Rattle.orm.specs.Sets.{upper_of_role}
use Rattle.table.specs.Positions.{preds_in, diagram_of}
use Rattle.table.specs.Cursors.{Ahead}
use Rattle.buffer.specs.Written.{Writing}
use Rattle.selection.specs.Laws.Types.{within}
use Rattle.limits.proofs.roles.push_role_uppers.Given as goal

abbrev pub invariant-loop : goal.invariant-loop
invariant-loop l =
    Ahead l.t l.q (l.count - l.counter)
    × Writing l.initial.out (map upper_of_role (all_roles (diagram_of l.t))) l.out (within upper_of_role (preds_in (l.count - l.counter) (drop l.q l.t)))
