use Rattle.buffer.specs.Laws.{writing_more, writing_all}
use Rattle.numerals.proofs.Writing.{values-start, values-more, values-none}
use Rattle.std.proofs.Common.{rules}
use Rattle.numerals.proofs.push_values.Goals as goal

pub loop-i-init : goal.loop-i-init
loop-i-init c = search (rules, values-start)

pub loop-i-preserved : goal.loop-i-preserved
loop-i-preserved c = search (rules, writing_more, values-more)

pub returns : goal.returns
returns c = search (rules, writing_all, values-none)
