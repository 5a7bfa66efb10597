use Rattle.table.specs.Laws.Walks.{ahead-start, ahead-here, ahead-third, ahead_on}
use Rattle.buffer.specs.Laws.{writing_more, writing_all}
use Rattle.selection.specs.Laws.Types.{roles-inside, within-start, within-next, within_end}
use Rattle.std.proofs.Common.{rules}
use Rattle.limits.proofs.roles.push_role_uppers.Goals as goal

pub loop-init : goal.loop-init
loop-init c = search (rules, within-start, ahead-start)

pub number-roles-requires : goal.number-roles-requires
number-roles-requires c = search (rules, ahead-third)

pub roles_at-requires : goal.roles_at-requires
roles_at-requires c = search (rules, ahead-here)

pub push_uppers-requires : goal.push_uppers-requires
push_uppers-requires c = search (rules, roles-inside)

pub next_pred-q-requires : goal.next_pred-q-requires
next_pred-q-requires c = search (rules, ahead-here)

pub loop-preserved : goal.loop-preserved
loop-preserved c = search (rules, writing_more, within-next, ahead_on)

pub returns : goal.returns
returns c = search (rules, writing_all, within_end)
