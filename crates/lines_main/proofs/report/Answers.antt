-- `lines_main::report` meets its contract. It ends within the buffer, whether or not there was room.
use Rattle.buffer.specs.Laws.{written_all, wrote-inside, wrote-counts}
use Rattle.std.proofs.Common.{rules}
use Rattle.lines_main.proofs.report.Goals as goal

pub returns-clause-wrote : goal.returns-clause-wrote
returns-clause-wrote c = search (rules, written_all)

pub returns-clause-inside : goal.returns-clause-inside
returns-clause-inside c = wrote-inside (returns-clause-wrote c)

pub returns-clause-counts : goal.returns-clause-counts
returns-clause-counts c = wrote-counts (returns-clause-wrote c)
