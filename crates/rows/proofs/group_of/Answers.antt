-- `rows::group_of` meets its contract. The columns of the group and then all are written behind one another.
use Rattle.buffer.specs.Written.{place_of}
use Rattle.rows.proofs.Groups.{group-here}
use Rattle.std.proofs.Common.{rules}
use Rattle.rows.proofs.group_of.Goals as goal

pub returns : goal.returns
returns c =
    group-here c.args.t.now c.args.pred c.args.g c.args.line c.args.js.now _ (place_of c.push_roles.new.out) c.roles_at.result c.number-width.result
    (search rules) (search rules) (search rules) (search rules) (search rules) (search rules) (search rules) (search rules)
