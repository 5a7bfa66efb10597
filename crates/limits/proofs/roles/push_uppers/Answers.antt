use Rattle.buffer.specs.Laws.{writing_start, writing_more, writing_all}
use Rattle.selection.specs.Laws.Types.{numbers_more, numbers-none}
use Rattle.std.proofs.Common.{rules}
use Rattle.limits.proofs.roles.push_uppers.Goals as goal

pub loop-init : goal.loop-init
loop-init c = search (rules, writing_start)

pub loop-preserved : goal.loop-preserved
loop-preserved c = (search rules, search (rules, writing_more, numbers_more))

pub returns : goal.returns
returns c = search (rules, writing_all, numbers-none)
