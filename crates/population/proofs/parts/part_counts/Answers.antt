use Rattle.std.proofs.Common.{rules}
use Rattle.population.proofs.Writing.{fronted}
use Rattle.population.proofs.PartLaws.{counts-room}
use Rattle.population.proofs.parts.part_counts.Goals as goal

pub returns : goal.returns
returns c = fronted c.args.space.now (search rules) (counts-room c.args.t.now c.args.x c.requires.few c.args.space.now c.requires.room)
