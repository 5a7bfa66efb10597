use Rattle.std.proofs.Common.{ap}
use Rattle.buffer.specs.Laws.{wrote_as}
use Rattle.tuples.specs.Steps.{steps}
use Rattle.tuples.specs.StepsLaws.{padded-all}
use Rattle.tuples.proofs.prepare.Goals as goal

pub returns : goal.returns
returns c = wrote_as c.push_pairing.ensures (ap (steps c.args.want) (padded-all c.args.sizes.now))
