use Rattle.std.proofs.Common.{rules}
use Rattle.population.proofs.Writing.{fronted}
use Rattle.population.proofs.PartLaws.{owns-room}
use Rattle.population.proofs.parts.part_sizes.Goals as goal

pub returns-clause-front : goal.returns-clause-front
returns-clause-front c = λ few room. fronted c.args.space.now (search rules) (owns-room c.args.t.now c.args.x few c.args.space.now c.args.c.now room)
