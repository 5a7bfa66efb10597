use Rattle.std.proofs.Common.{rules, arith, refl}
use Rattle.population.proofs.Writing.{wrote_none, wrote_more}
use Rattle.table.specs.Laws.Valid.{valid-walkable}
use Rattle.population.proofs.PredLaws.{walking_start, walking-here, walking_more, cells_none, cells_more, cells_all, ready_here, few_start, few_next}
use Rattle.population.proofs.preds.push_preds.Goals as goal

pub first_cursor-x-requires-clause-walkable : goal.first_cursor-x-requires-clause-walkable
first_cursor-x-requires-clause-walkable c = valid-walkable c.requires.valid

pub pred_count-end-requires : goal.pred_count-end-requires
pred_count-end-requires c = valid-walkable c.requires.valid

pub loop-init : goal.loop-init
loop-init c = record {
  walking = walking_start c.args.t.now c.args.c.now (valid-walkable c.requires.valid) (search rules);
  few = few_start c.requires.valid (search rules) refl;
  wrote = search (rules, wrote_none, cells_none);
}

pub push_pred-requires-clause-at_predicate : goal.push_pred-requires-clause-at_predicate
push_pred-requires-clause-at_predicate c = ready_here c.requires.valid c.requires.small refl (omega (arith, c.pred_count-end.ensures.value, c.loop-test.true)) c.loop.invariant.walking c.loop.invariant.few

pub next_cursor-x-requires-clause-walkable : goal.next_cursor-x-requires-clause-walkable
next_cursor-x-requires-clause-walkable c = valid-walkable c.requires.valid

pub next_cursor-x-requires-clause-here : goal.next_cursor-x-requires-clause-here
next_cursor-x-requires-clause-here c = walking-here c.args.t.now c.args.c.now c.loop.invariant.walking (search rules) c.loop-test.true

pub loop-preserved : goal.loop-preserved
loop-preserved c = record {
  walking = walking_more c.args.t.now c.args.c.now c.loop.invariant.walking (search rules) c.loop-test.true (search rules);
  few = few_next c.requires.valid c.requires.small refl (omega (arith, c.pred_count-end.ensures.value, c.loop-test.true)) c.loop.invariant.few (search rules);
  wrote = wrote_more c.loop.invariant.wrote c.push_pred.ensures
      (cells_more c.args.t.now c.args.c.now c.loop.invariant.walking (search rules) c.loop-test.true);
}

pub returns : goal.returns
returns c = search (rules, cells_all)
