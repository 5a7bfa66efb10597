-- An order by some columns is one by the first of them too.
use Rattle.columns.specs.Reach.{front-keyed}
use Rattle.order.specs.Parts.{part-long}
use Rattle.runs.proofs.Walked.{ready_front}
use Rattle.std.proofs.Common.{rules}
use Rattle.runs.proofs.rows_and_group.Goals as goal

pub slice_bounds-group-end : goal.slice_bounds-group-end
slice_bounds-group-end c = search (rules, part-long)

pub invariant_of-group : goal.invariant_of-group
invariant_of-group c = search (front-keyed _ _ c.args.keys.now.keyed c.args.n)

pub occurring_by-requires-2 : goal.occurring_by-requires-2
occurring_by-requires-2 c = search (rules, ready_front)
