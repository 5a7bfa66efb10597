-- `report::push_sizes` meets its contract. The rounds, and the sizes behind them.
use Rattle.report.proofs.Steps.{sizes-is}
use Rattle.std.proofs.Common.{rules}
use Rattle.report.proofs.push_sizes.Goals as goal

pub returns : goal.returns
returns c = search (rules, sizes-is)
