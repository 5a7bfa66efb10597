use Rattle.std.proofs.Common.{rules, arith}
use Rattle.grammar.proofs.Named.{limits-given, limits-none, limited_long}
use Rattle.grammar.proofs.tests.limits_in_order.Goals as goal

pub bounds-line-3 : goal.bounds-line-3
bounds-line-3 c = omega (arith, limited_long _ c.requires c.if-kind-eq2.true)

pub bounds-line-4 : goal.bounds-line-4
bounds-line-4 c = omega (arith, limited_long _ c.requires c.if-kind-eq2.true)

pub returns-then-kind-eq2 : goal.returns-then-kind-eq2
returns-then-kind-eq2 c = search (rules, limits-given)

pub returns : goal.returns
returns c = search (rules, limits-none)
