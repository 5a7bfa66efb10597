use Rattle.std.proofs.Common.{rules, arith}
use Rattle.dependents.specs.Dependents.{differing}
use Rattle.dependents.proofs.Walks.{taken-start, taken-more, taken-all, listed_more, listed_all}
use Rattle.dependents.proofs.rounds.take_sizes.Goals as goal

pub loop-i-init : goal.loop-i-init
unfolding differing
loop-i-init c = search (rules, taken-start)

pub loop-i-preserved : goal.loop-i-preserved
loop-i-preserved c = search (rules, taken-more, listed_more)

pub returns-clause-before_after : goal.returns-clause-before_after
returns-clause-before_after c = search (rules, taken-all)

pub returns-clause-wrote : goal.returns-clause-wrote
returns-clause-wrote c = listed_all c.args.before.now c.args.after.now c.loop-i.i (omega (arith, c.requires)) c.loop-i-test.false (search rules)
