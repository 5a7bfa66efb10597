-- `blocks::block_end` meets its contract. The size cell and its entries, which stay few.
use Rattle.blocks.specs.Places.{end_is, size_fits, end_fits, end-near}
use Rattle.std.proofs.Common.{rules}
use Rattle.blocks.proofs.block_end.Goals as goal

pub overflow_mul-result : goal.overflow_mul-result
overflow_mul-result c = search (rules, size_fits)

pub overflow_add-result-2 : goal.overflow_add-result-2
overflow_add-result-2 c = search (rules, end_fits)

pub returns-clause-value : goal.returns-clause-value
returns-clause-value c = search (rules, end_is)

pub returns-clause-upper_bound : goal.returns-clause-upper_bound
returns-clause-upper_bound c = search (rules, end-near)
