use Rattle.population.proofs.Writing.{wrote_more}
use Rattle.table.specs.Laws.Valid.{valid-walkable}
use Rattle.population.proofs.PredLaws.{cells_is, types-listed}
use Rattle.population.proofs.push_cells.Goals as goal

pub push_types-requires-clause-walkable : goal.push_types-requires-clause-walkable
push_types-requires-clause-walkable c = valid-walkable c.requires.valid

pub push_preds-requires-clause-types : goal.push_preds-requires-clause-types
push_preds-requires-clause-types c = types-listed c.requires.valid c.role_types-n.ensures.is

pub returns : goal.returns
returns c = wrote_more c.push_types.ensures c.push_preds.ensures (cells_is c.args.t.now c.args.c.now)
