-- `legshorgan::report` meets its contract. The buffer has room for all that is printed.
use Rattle.buffer.specs.Laws.{wrote-inside, wrote-counts}
use Rattle.command.specs.Laws.Whole.{output-length, output-front, output-behind}
use Rattle.std.proofs.Common.{rules}
use Rattle.legshorgan.proofs.report.Goals as goal

pub returns-clause-value : goal.returns-clause-value
returns-clause-value c = search (rules, output-length)

pub returns-clause-out_after : goal.returns-clause-out_after
returns-clause-out_after c = search (rules, output-front)

pub returns-clause-out_unchanged : goal.returns-clause-out_unchanged
returns-clause-out_unchanged c = search (rules, output-behind)

pub returns-clause-inside : goal.returns-clause-inside
returns-clause-inside c = search (rules, wrote-inside)

pub returns-clause-counts : goal.returns-clause-counts
returns-clause-counts c = search (rules, wrote-counts)
