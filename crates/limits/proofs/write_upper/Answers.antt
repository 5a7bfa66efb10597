-- `limits::write_upper` meets its contract. Types, predicates, roles and groups, one after another.
use Rattle.buffer.specs.Laws.{written_all}
use Rattle.table.specs.Positions.{diagram_of}
use Rattle.limits.proofs.Starts.{upper_is}
use Rattle.std.proofs.Common.{rules}
use Rattle.limits.proofs.write_upper.Goals as goal

pub returns : goal.returns
returns c =
    let start = c.new-out.ensures in
    let written = upper_is (diagram_of c.args.t.now) (search rules) c.push_type_uppers.ensures c.push_pred_uppers.ensures c.push_role_uppers.ensures c.fill.ensures in
    search (rules, written_all start written)
