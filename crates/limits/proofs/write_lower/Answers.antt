-- `limits::write_lower` meets its contract. Types, predicates, roles and groups, one after another.
use Rattle.buffer.specs.Laws.{written_all}
use Rattle.table.specs.Positions.{diagram_of}
use Rattle.limits.proofs.Starts.{lower_is}
use Rattle.std.proofs.Common.{rules}
use Rattle.limits.proofs.write_lower.Goals as goal

pub returns : goal.returns
returns c =
    let start = c.new-out.ensures in
    let written = lower_is (diagram_of c.args.t.now) (search rules) c.push_type_lowers.ensures c.push_pred_lowers.ensures c.push_role_lowers.ensures c.fill.ensures in
    search (rules, written_all start written)
