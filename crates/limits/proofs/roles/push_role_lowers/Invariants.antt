-- `limits::roles::push_role_lowers` meets its contract. The bounds of the roles of the predicates left come to the whole.
use Prim.Native.Nat.{◌-◌}
use mathlib.Core.List.{map}
use lib.ListN.{drop}
use Rattle.orm.specs.Diagram.{Role, all_roles}
use Rattle.table.specs.Positions.{preds_in, diagram_of}
use Rattle.table.specs.Cursors.{Ahead}
use Rattle.buffer.specs.Written.{Writing}
use Rattle.selection.specs.Laws.Types.{within}
use Rattle.limits.proofs.roles.push_role_lowers.Given as goal

abbrev pub invariant-loop : goal.invariant-loop
invariant-loop l =
    Ahead l.t l.q (l.count - l.counter)
    × Writing l.initial.out (map (λ (x : Role). x.rmin) (all_roles (diagram_of l.t))) l.out (within (λ (x : Role). x.rmin) (preds_in (l.count - l.counter) (drop l.q l.t)))
