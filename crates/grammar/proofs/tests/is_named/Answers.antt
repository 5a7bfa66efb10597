use Rattle.std.proofs.Common.{rules}
use Rattle.grammar.proofs.Named.{named_end, named_here, named_more}
use Rattle.grammar.proofs.tests.is_named.Goals as goal

pub returns-then-number_at-group : goal.returns-then-number_at-group
returns-then-number_at-group c = search (rules, named_here)

pub loop-preserved : goal.loop-preserved
loop-preserved c = search (rules, named_more)

pub returns : goal.returns
returns c = search (rules, named_end)
