use Rattle.std.proofs.Common.{rules}
use Rattle.population.proofs.CountLaws.{row_cells, row_cells_few, row_cells_fit}
use Rattle.population.proofs.counts.count_row_cells.Goals as goal

pub overflow_mul-result : goal.overflow_mul-result
overflow_mul-result c = search (rules, row_cells_fit)

pub returns-clause-value : goal.returns-clause-value
returns-clause-value c = search (rules, row_cells)

pub returns-clause-upper_bound : goal.returns-clause-upper_bound
returns-clause-upper_bound c = search (rules, row_cells_few)
