use Rattle.blocks.specs.Starts.{walk_on, walk_more, pending-start, next-inside, next-wide, pending-next, all-ended, all-written, all-long}
use Rattle.std.proofs.Common.{rules}
use Rattle.blocks.proofs.end_of_blocks.Goals as goal

pub loop-k-init : goal.loop-k-init
loop-k-init c = record { pending = search (rules, pending-start); walk = search (rules, walk_on) }

pub next_pred-pred-requires-clause-t_in_bounds : goal.next_pred-pred-requires-clause-t_in_bounds
next_pred-pred-requires-clause-t_in_bounds c = search (rules, next-inside)

pub loop-k-preserved : goal.loop-k-preserved
loop-k-preserved c = record { pending = search (rules, pending-next); walk = search (rules, walk_more, next-wide) }

pub shape_of-starts : goal.shape_of-starts
shape_of-starts c = search (rules, all-long)

pub returns-clause-value : goal.returns-clause-value
returns-clause-value c = search (rules, all-ended)

pub returns-clause-starts_after : goal.returns-clause-starts_after
returns-clause-starts_after c = search (rules, all-written)
