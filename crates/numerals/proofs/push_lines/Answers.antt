use Rattle.buffer.specs.Laws.{writing_start, writing_more, writing_all}
use Rattle.numerals.proofs.Writing.{lines_more, lines_none}
use Rattle.std.proofs.Common.{rules}
use Rattle.numerals.proofs.push_lines.Goals as goal

pub loop-init : goal.loop-init
loop-init c = search (rules, writing_start)

pub loop-preserved : goal.loop-preserved
loop-preserved c = search (rules, writing_more, lines_more)

pub returns : goal.returns
returns c = search (rules, writing_all, lines_none)
