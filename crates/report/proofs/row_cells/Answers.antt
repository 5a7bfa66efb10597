-- `report::row_cells` meets its contract. The product is small.
use Rattle.report.proofs.Steps.{product_small}
use native.Mathlib.Omega.{arith}
use Rattle.std.proofs.Common.{rules}
use Rattle.report.proofs.row_cells.Goals as goal

pub overflow_mul-result : goal.overflow_mul-result
overflow_mul-result c = omega (arith, product_small c.args.size c.args.width (search rules) (search rules))

pub returns : goal.returns
returns c = search (rules, product_small)
