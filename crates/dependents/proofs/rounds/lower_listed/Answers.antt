use Rattle.std.proofs.Common.{rules}
use Rattle.dependents.proofs.Walks.{listing_start, listing_all, due-set}
use Rattle.dependents.proofs.rounds.lower_listed.Goals as goal

pub loop-s-init : goal.loop-s-init
loop-s-init c = search (rules, listing_start)

pub lower_dependents-requires-clause-s_in_bounds : goal.lower_dependents-requires-clause-s_in_bounds
lower_dependents-requires-clause-s_in_bounds c = search (rules, due-set)

pub returns : goal.returns
returns c = search (rules, listing_all)
