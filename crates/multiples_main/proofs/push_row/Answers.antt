use Rattle.buffer.specs.Laws.{writing_start, writing_more, writing_all}
use Rattle.multiples_main.proofs.Laws.{row_more, row-none}
use Rattle.std.proofs.Common.{rules}
use Rattle.multiples_main.proofs.push_row.Goals as goal

pub loop-b-init : goal.loop-b-init
loop-b-init c = search (rules, writing_start)

pub loop-b-preserved : goal.loop-b-preserved
loop-b-preserved c = search (rules, writing_more, row_more)

pub returns : goal.returns
returns c = search (rules, writing_all, row-none)
