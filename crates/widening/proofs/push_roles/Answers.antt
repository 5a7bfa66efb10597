use Rattle.std.proofs.Common.{arith, ◌+◌, ◌*◌, ◌-◌, ◌∙◌, sym, ap, ◌++◌}
use Rattle.buffer.specs.Laws.{wrote_none, wrote_then, wrote_as}
use Rattle.widening.specs.Widened.{roles_widened}
use Rattle.widening.specs.Laws.Writes.{roles_none, roles_more, role_cut}
use Rattle.widening.proofs.push_roles.Goals as goal

pub loop-i-init : goal.loop-i-init
loop-i-init c = wrote_as (wrote_none _) (sym (roles_none _))

pub loop-i-preserved : goal.loop-i-preserved
loop-i-preserved c =
    wrote_as (wrote_then c.loop-i.invariant c.push_role.ensures)
    (ap (λ xs. roles_widened c.loop-i.i c.args.roles.now ++ xs) (role_cut _ (3 * c.loop-i.i + 3 - 3 * c.loop-i.i) (omega arith)) ∙ sym (roles_more _ _))
