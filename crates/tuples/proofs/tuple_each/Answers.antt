use Rattle.std.proofs.Common.{rules, arith, length-take}
use Rattle.tuples.specs.StoredLaws.{stored_more, stored_none, stored-long}
use Rattle.tuples.specs.NestedLaws.{tuples_none, sum_next, sum_fits, tuples_more, tuples_long, tuples_all}
use Rattle.tuples.specs.declared.Step.{Step}
use Rattle.tuples.proofs.tuple_each.Goals as goal

pub loop-n-init : goal.loop-n-init
loop-n-init c = record { stored = grind (arith, tuples_none, stored_none); at = search rules }

pub slice_bounds-tuple-end : goal.slice_bounds-tuple-end
slice_bounds-tuple-end c = search (rules, sum_fits)

pub tuple-requires-clause-room : goal.tuple-requires-clause-room
tuple-requires-clause-room c = omega (
  arith,
  stored-long c.loop-n.invariant.stored,
  sum_fits c.args.counts.now c.loop-n.n c.loop-n.invariant.at c.loop-n-test.true c.requires.room,
  length-take {A = Step},
)

pub loop-n-preserved : goal.loop-n-preserved
loop-n-preserved c = record {
  stored = stored_more c.loop-n.invariant.stored c.tuple.ensures
      (tuples_long c.args.steps.now c.args.counts.now c.args.rows.now c.loop-n.invariant.at (omega arith) (omega arith) c.requires.stepped)
      (tuples_more c.args.counts.now c.loop-n.n c.loop-n.invariant.at c.args.steps.now c.args.rows.now (omega arith) c.loop-n-test.true);
  at = search (rules, sum_next);
}

pub returns-clause-value : goal.returns-clause-value
returns-clause-value c =
    tuples_all c.args.steps.now c.args.counts.now c.args.rows.now c.loop-n.invariant.at (omega arith) (omega arith) (omega arith) c.requires.stepped
