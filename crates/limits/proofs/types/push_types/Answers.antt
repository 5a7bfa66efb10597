use Rattle.std.proofs.Common.{rules, ◌<◌, ◌≤◌}
use Rattle.orm.specs.Form.{type_of}
use Rattle.orm.specs.Sets.{limits_of_type}
use Rattle.table.specs.Positions.{type_count, diagram_of}
use Rattle.limits.proofs.Walked.{encoding_start, encoding_more, encoding_all, types_first, types_more, left_none}
use Rattle.limits.proofs.types.push_types.Goals as goal

pub loop-a-init : goal.loop-a-init
loop-a-init c = (search rules, encoding_start (types_first c.args.t.now))

pub loop-a-preserved : goal.loop-a-preserved
loop-a-preserved c =
    let inv = c.loop-a.invariant in
    let more : c.loop-a.a < type_count c.args.t.now = search rules in
    (inv.0, encoding_more (types_more c.args.t.now c.loop-a.a more) inv.1 c.push_type.ensures)

pub returns : goal.returns
returns c =
    let over : type_count c.args.t.now ≤ c.loop-a.a = search rules in
    encoding_all (left_none type_of 6 (limits_of_type (diagram_of c.args.t.now)) c.args.t.now 2 (type_count c.args.t.now) 0 c.loop-a.a over)
    c.loop-a.invariant.1
