use Rattle.std.proofs.Common.{rules, arith}
use Rattle.std.proofs.lemmas.Grind.{common_steps}
use Rattle.selection.specs.Laws.Upto.{passed-start, passed_more, passed-third, passed-inside, passed-roles}
use Rattle.selection.specs.Laws.Writes.{wrote_more}
use Rattle.selection.specs.Laws.Types.{types_none, types_more, types_all}
use Rattle.selection.proofs.push_all_types.Goals as goal

pub loop-init : goal.loop-init
loop-init c = record { passed = search (rules, passed-start); wrote = grind (arith, common_steps, types_none) }

pub number-count-requires-clause-i_in_bounds : goal.number-count-requires-clause-i_in_bounds
number-count-requires-clause-i_in_bounds c = search (rules, passed-third)

pub roles_at-requires : goal.roles_at-requires
roles_at-requires c = search (rules, passed-inside)

pub push_types-requires-clause-count_in_bounds : goal.push_types-requires-clause-count_in_bounds
push_types-requires-clause-count_in_bounds c = search (rules, passed-roles)

pub next_pred-q-requires-clause-t_in_bounds : goal.next_pred-q-requires-clause-t_in_bounds
next_pred-q-requires-clause-t_in_bounds c = search (rules, passed-inside)

pub loop-preserved : goal.loop-preserved
loop-preserved c = record { passed = search (rules, passed_more); wrote = search (rules, wrote_more, types_more) }

pub returns : goal.returns
returns c = grind (arith, common_steps, types_all)
