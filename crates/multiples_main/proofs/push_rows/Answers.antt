use Rattle.buffer.specs.Laws.{writing_start, writing_more, writing_all}
use Rattle.multiples_main.proofs.Laws.{rows_more, rows_none}
use Rattle.std.proofs.Common.{rules}
use Rattle.multiples_main.proofs.push_rows.Goals as goal

pub loop-a-init : goal.loop-a-init
loop-a-init c = search (rules, writing_start)

pub loop-a-preserved : goal.loop-a-preserved
loop-a-preserved c = search (rules, writing_more, rows_more)

pub returns : goal.returns
returns c = search (rules, writing_all, rows_none)
