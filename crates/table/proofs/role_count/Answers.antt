use Rattle.table.specs.Laws.Walks.{roles-start, roles_on, roles-all, roles-fit, roles-few, ahead-start, ahead-here}
use Rattle.table.specs.Laws.Walks.{ahead-third, ahead_on}
use Rattle.std.proofs.Common.{rules}
use Rattle.table.proofs.role_count.Goals as goal

pub loop-init : goal.loop-init
loop-init c = search (rules, roles-start, ahead-start)

pub number-n-requires : goal.number-n-requires
number-n-requires c = search (rules, ahead-third)

pub overflow_add-n : goal.overflow_add-n
overflow_add-n c = search (rules, roles-fit)

pub next_pred-at-requires : goal.next_pred-at-requires
next_pred-at-requires c = search (rules, ahead-here)

pub loop-preserved : goal.loop-preserved
loop-preserved c = search (rules, roles_on, ahead_on)

pub returns : goal.returns
returns c = record {
  value = roles-all _ _ _ _ c.loop.invariant.1 (search rules);
  upper_bound = roles-few _ _ _ _ c.loop.invariant.1 c.requires (search rules);
}
