use Rattle.std.proofs.Common.{rules}
use Rattle.buffer.specs.Laws.{writing_start, writing_more, writing_all}
use Rattle.report.proofs.Steps.{types_more, types-none}
use Rattle.report.proofs.push_types.Goals as goal

pub loop-init : goal.loop-init
loop-init c = search (rules, writing_start)

pub loop-preserved : goal.loop-preserved
loop-preserved c = search (rules, writing_more, types_more)

pub returns : goal.returns
returns c = search (rules, writing_all, types-none)
