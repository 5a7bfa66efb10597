use Rattle.std.proofs.Common.{rules}
use Rattle.table.specs.Laws.Valid.{valid-walkable}
use Rattle.population.proofs.CountLaws.{cells-counted}
use Rattle.population.proofs.cell_count.Goals as goal

pub count_type_cells-requires-clause-walkable : goal.count_type_cells-requires-clause-walkable
count_type_cells-requires-clause-walkable c = valid-walkable c.requires.valid

pub count_pred_cells-requires-clause-walkable : goal.count_pred_cells-requires-clause-walkable
count_pred_cells-requires-clause-walkable c = valid-walkable c.requires.valid

pub returns : goal.returns
returns c = search (rules, cells-counted)
