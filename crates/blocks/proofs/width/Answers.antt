-- `blocks::width` meets its contract. The `pred` line says it.
use Rattle.blocks.specs.Places.{width_is}
use Rattle.std.proofs.Common.{rules}
use Rattle.blocks.proofs.width.Goals as goal

pub returns : goal.returns
returns c = search (rules, width_is)
