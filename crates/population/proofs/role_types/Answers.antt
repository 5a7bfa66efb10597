use Rattle.std.proofs.Common.{rules}
use Rattle.population.proofs.Writing.{fronted}
use Rattle.table.specs.Laws.Valid.{valid-walkable}
use Rattle.population.proofs.PredLaws.{types-room}
use Rattle.population.proofs.role_types.Goals as goal

pub push_all_types-requires : goal.push_all_types-requires
push_all_types-requires c = valid-walkable c.requires.valid

pub returns : goal.returns
returns c = fronted c.args.space.now (search rules) (types-room c.requires.valid c.args.space.now c.requires.room)
