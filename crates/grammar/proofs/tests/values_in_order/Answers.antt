use Rattle.grammar.proofs.Numbers.{order-none, order_turned, order-root, order-within, types-before}
use Rattle.std.proofs.Common.{rules}
use Rattle.grammar.proofs.tests.values_in_order.Goals as goal

pub returns-then-not-has_range : goal.returns-then-not-has_range
returns-then-not-has_range c = search (rules, order-none)

pub returns-then-line : goal.returns-then-line
returns-then-line c = search (rules, order_turned)

pub returns-then-line-eq0 : goal.returns-then-line-eq0
returns-then-line-eq0 c = search (rules, order-root)

pub returns : goal.returns
returns c = search (rules, order-within, types-before)
