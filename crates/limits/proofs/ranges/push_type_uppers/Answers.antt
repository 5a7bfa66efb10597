use Rattle.buffer.specs.Laws.{writing_more, writing_all}
use Rattle.limits.proofs.Columns.{types-start, types_more, types-none}
use Rattle.std.proofs.Common.{rules}
use Rattle.limits.proofs.ranges.push_type_uppers.Goals as goal

pub loop-init : goal.loop-init
loop-init c = (search rules, search (rules, types-start))

pub loop-preserved : goal.loop-preserved
loop-preserved c = (search rules, search (rules, writing_more, types_more))

pub returns : goal.returns
returns c = search (rules, writing_all, types-none)
