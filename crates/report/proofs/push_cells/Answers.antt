-- `report::push_cells` meets its contract. The types, and the predicates behind them.
use Rattle.report.proofs.Steps.{cells_is}
use Rattle.std.proofs.Common.{rules}
use Rattle.report.proofs.push_cells.Goals as goal

pub returns : goal.returns
returns c = search (rules, cells_is)
