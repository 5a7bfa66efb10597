use Rattle.columns.specs.Walks.{value-here}
use Rattle.std.proofs.Common.{rules}
use Rattle.blocks.proofs.size.Goals as goal

pub returns-clause-value : goal.returns-clause-value
returns-clause-value c = search (rules, value-here)
