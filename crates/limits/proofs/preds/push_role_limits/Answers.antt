use Rattle.std.proofs.Common.{rules, arith, ◌<◌, ◌≤◌, get_or, drop}
use Rattle.orm.specs.Sets.{limits_of_role}
use Rattle.table.specs.Positions.{role_width, wide_role}
use Rattle.table.specs.Cursors.{placed_at}
use Rattle.limits.proofs.Walked.{encoding_start, encoding_more, encoding_all, roles_first, left_more, left_none}
use Rattle.limits.proofs.preds.push_role_limits.Goals as goal

pub loop-i-init : goal.loop-i-init
loop-i-init c = (search rules, encoding_start (roles_first c.args.t.now c.args.x c.roles_at-q.ensures))

pub loop-i-preserved : goal.loop-i-preserved
loop-i-preserved c =
    let inv = c.loop-i.invariant in
    let more : c.loop-i.i < get_or (drop c.args.x.at c.args.t.now) 2 0 = search rules in (
      inv.0,
      encoding_more (left_more wide_role role_width (limits_of_role (placed_at c.args.t.now c.args.x)) c.args.t.now _ _ c.args.x.roles c.loop-i.i
          (omega arith) more) inv.1 c.push_role.ensures,
    )

pub returns : goal.returns
returns c =
    let over : get_or (drop c.args.x.at c.args.t.now) 2 0 ≤ c.loop-i.i = search rules in
    encoding_all (left_none wide_role role_width (limits_of_role (placed_at c.args.t.now c.args.x)) c.args.t.now _ _ c.args.x.roles c.loop-i.i over)
    c.loop-i.invariant.1
