use Rattle.std.proofs.Common.{rules}
use Rattle.population.proofs.Writing.{fronted}
use Rattle.population.proofs.PredLaws.{steps-room}
use Rattle.population.proofs.preds.row_steps.Goals as goal

pub returns : goal.returns
returns c = fronted c.args.space.now (search rules) (steps-room c.args.count c.args.sizes.now c.requires.few c.args.space.now c.requires.room)
