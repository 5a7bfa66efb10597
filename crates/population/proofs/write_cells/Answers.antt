-- `population::write_cells` meets its contract.
use Rattle.buffer.specs.Laws.{written_all}
use Rattle.std.proofs.Common.{rules}
use Rattle.population.proofs.write_cells.Goals as goal

pub returns : goal.returns
returns c = search (rules, written_all)
