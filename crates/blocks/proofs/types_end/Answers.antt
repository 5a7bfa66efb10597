use Rattle.blocks.specs.Starts.{walk_start, walk_more, walk-types, type_wide}
use Rattle.std.proofs.Common.{rules}
use Rattle.blocks.proofs.types_end.Goals as goal

pub loop-k-init : goal.loop-k-init
loop-k-init c = search (rules, walk_start)

pub loop-k-preserved : goal.loop-k-preserved
loop-k-preserved c = search (rules, type_wide, walk_more)

pub returns : goal.returns
returns c = search (rules, walk-types)
