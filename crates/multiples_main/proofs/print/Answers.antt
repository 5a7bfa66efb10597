-- `multiples_main::print` meets its contract. There is room for the text.
use Rattle.buffer.specs.Laws.{written_all}
use Rattle.multiples_main.proofs.Laws.{printed, printed-inside, printed-counts}
use Rattle.std.proofs.Common.{rules}
use Rattle.multiples_main.proofs.print.Goals as goal

pub returns-clause-printed : goal.returns-clause-printed
returns-clause-printed c = search (rules, written_all, printed)

pub returns-clause-inside : goal.returns-clause-inside
returns-clause-inside c = printed-inside {o = c.args.buffer.now} (search (rules, written_all)) (search rules)

pub returns-clause-counts : goal.returns-clause-counts
returns-clause-counts c = printed-counts {o = c.args.buffer.now} (search (rules, written_all)) (search rules)
