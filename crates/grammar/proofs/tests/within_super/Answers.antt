use Rattle.grammar.proofs.Numbers.{within-last, within-other}
use Rattle.std.proofs.Common.{rules}
use Rattle.grammar.proofs.tests.within_super.Goals as goal

pub returns-then-line-first : goal.returns-then-line-first
returns-then-line-first c = search (rules, within-last)

pub returns-else-line-first : goal.returns-else-line-first
returns-else-line-first c = search (rules, within-other)
