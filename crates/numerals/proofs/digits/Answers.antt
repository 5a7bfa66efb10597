use Rattle.numerals.proofs.Writing.{digits-start, digits_more, digits-all}
use Rattle.std.proofs.Common.{rules}
use Rattle.numerals.proofs.digits.Goals as goal

pub loop-left-init : goal.loop-left-init
loop-left-init c = search (rules, digits-start)

pub loop-left-preserved : goal.loop-left-preserved
loop-left-preserved c = search (rules, digits_more)

pub returns : goal.returns
returns c = search (rules, digits-all)
