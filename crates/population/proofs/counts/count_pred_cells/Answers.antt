use Rattle.std.proofs.Common.{rules, arith}
use Rattle.population.proofs.PredLaws.{walking_start, walking-here, walking_more, cells_none, cells_more, cells_all}
use Rattle.population.proofs.CountLaws.{counted_none, counted_more, pred_length_at}
use Rattle.population.proofs.counts.count_pred_cells.Goals as goal

pub loop-init : goal.loop-init
loop-init c = record { walking = search (rules, walking_start); value = search (rules, counted_none, cells_none); small = omega arith }

pub count_row_cells-requires-clause-here : goal.count_row_cells-requires-clause-here
count_row_cells-requires-clause-here c = walking-here c.args.t.now c.args.c.now c.loop.invariant.walking (search rules) c.loop-test.true

pub next_cursor-x-requires-clause-here : goal.next_cursor-x-requires-clause-here
next_cursor-x-requires-clause-here c = walking-here c.args.t.now c.args.c.now c.loop.invariant.walking (search rules) c.loop-test.true

pub loop-preserved : goal.loop-preserved
loop-preserved c = record {
  walking = walking_more c.args.t.now c.args.c.now c.loop.invariant.walking (search rules) c.loop-test.true (search rules);
  value = counted_more _ _ c.loop.invariant.value (cells_more c.args.t.now c.args.c.now c.loop.invariant.walking (search rules) c.loop-test.true) (search (rules, pred_length_at));
  small = omega arith;
}

pub returns-clause-value : goal.returns-clause-value
returns-clause-value c = search (rules, cells_all)
