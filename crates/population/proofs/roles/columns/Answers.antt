use Rattle.std.proofs.Common.{rules}
use Rattle.population.proofs.Writing.{fronted}
use Rattle.table.specs.Positions.{diagram_of}
use Rattle.population.proofs.RoleLaws.{columns-room}
use Rattle.population.proofs.roles.columns.Goals as goal

pub returns : goal.returns
returns c =
    fronted c.args.space.now (search rules)
    (columns-room (diagram_of c.args.t.now) c.args.c.now c.args.types.now c.args.roles.now c.args.t.now c.args.x c.args.space.now c.requires.few c.requires.room)
