use Rattle.std.proofs.Common.{rules, arith, ◌<◌, ◌≤◌, ◌-◌}
use Rattle.table.specs.Positions.{pred_count}
use Rattle.table.specs.Laws.Cursors.{reach-start, reach_here}
use Rattle.limits.proofs.Walked.{encoding_start, encoding_more, encoding_all, preds_all, preds_more, preds_none, reach_next}
use Rattle.limits.proofs.preds.push_preds.Goals as goal

pub loop-init : goal.loop-init
loop-init c =
    (reach-start c.args.t.now c.requires.walkable c.first_cursor-x.ensures (omega arith), encoding_start (preds_all c.args.t.now c.first_cursor-x.ensures))

pub push_pred-requires-clause-here : goal.push_pred-requires-clause-here
push_pred-requires-clause-here c =
    let more : c.loop.counter < pred_count c.args.t.now = search rules in
    reach_here c.args.t.now c.loop.x (pred_count c.args.t.now - c.loop.counter) c.loop.invariant.0 (omega arith)

pub next_cursor-x-requires-clause-here : goal.next_cursor-x-requires-clause-here
next_cursor-x-requires-clause-here c =
    let more : c.loop.counter < pred_count c.args.t.now = search rules in
    reach_here c.args.t.now c.loop.x (pred_count c.args.t.now - c.loop.counter) c.loop.invariant.0 (omega arith)

pub loop-preserved : goal.loop-preserved
loop-preserved c =
    let inv = c.loop.invariant in
    let more : c.loop.counter < pred_count c.args.t.now = search rules in (
      reach_next c.args.t.now c.loop.x c.loop.counter inv.0 more c.next_cursor-x.ensures,
      encoding_more (preds_more c.args.t.now c.loop.x c.loop.counter more c.next_cursor-x.ensures) inv.1 c.push_pred.ensures,
    )

pub returns : goal.returns
returns c =
    let over : pred_count c.args.t.now ≤ c.loop.counter = search rules in
    encoding_all (preds_none c.args.t.now c.loop.x c.loop.counter over) c.loop.invariant.1
