-- `averages::average_valid` meets its contract. No group has the number, or one has, and its predicate.
use Rattle.averages.proofs.Answers.{no_owner, number-some, owner-among, group-among-sets, of_owner}
use Rattle.std.proofs.Common.{rules}
use Rattle.averages.proofs.average_valid.Goals as goal

pub overflow_sub-group : goal.overflow_sub-group
overflow_sub-group c = search (rules, number-some)

pub average_settled-requires : goal.average_settled-requires
average_settled-requires c = search (rules, owner-among, group-among-sets)

pub returns-in_default : goal.returns-in_default
returns-in_default c = search (rules, no_owner)

pub returns : goal.returns
returns c = search (rules, of_owner)
