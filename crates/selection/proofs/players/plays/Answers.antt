use Rattle.std.proofs.Common.{rules}
use Rattle.selection.specs.Laws.Upto.{passed-third, passed-inside, passed-roles}
use Rattle.selection.specs.Laws.Players.{within_none, within_more, within_found, within_all}
use Rattle.selection.proofs.players.plays.Goals as goal

pub loop-init : goal.loop-init
loop-init c = search (rules, within_none)

pub number-count-requires-clause-i_in_bounds : goal.number-count-requires-clause-i_in_bounds
number-count-requires-clause-i_in_bounds c = search (rules, passed-third)

pub roles_at-requires : goal.roles_at-requires
roles_at-requires c = search (rules, passed-inside)

pub plays_one-requires-clause-count_in_bounds : goal.plays_one-requires-clause-count_in_bounds
plays_one-requires-clause-count_in_bounds c = search (rules, passed-roles)

pub returns-then-plays_one : goal.returns-then-plays_one
returns-then-plays_one c = search (rules, within_found)

pub next_pred-q-requires-clause-t_in_bounds : goal.next_pred-q-requires-clause-t_in_bounds
next_pred-q-requires-clause-t_in_bounds c = search (rules, passed-inside)

pub loop-preserved : goal.loop-preserved
loop-preserved c = search (rules, within_more)

pub returns : goal.returns
returns c = search (rules, within_all)
