use Rattle.std.proofs.Common.{arith, sym}
use Rattle.buffer.specs.Laws.{wrote_none, wrote_then, wrote_as}
use Rattle.widening.specs.Laws.Writes.{fields_none, preds_none, next_fields, next_wrote, next_ends, next_inside}
use Rattle.widening.proofs.push_preds.Goals as goal

pub loop-init : goal.loop-init
loop-init c = record { inside = omega arith; behind = sym (fields_none _); wrote = wrote_as (wrote_none _) (sym (preds_none _)) }

pub push_pred-at-requires : goal.push_pred-at-requires
push_pred-at-requires c = next_inside c.loop.counter c.args.count c.args.preds.now c.loop.invariant.behind c.loop-test.true c.requires

pub overflow_add-at : goal.overflow_add-at
overflow_add-at c =
    record { fits = omega (arith, next_fields c.loop.counter c.args.count c.args.preds.now c.loop.invariant.behind c.push_pred-at.ensures.value, next_ends c.loop.counter c.args.count c.args.preds.now c.loop.invariant.behind c.loop-test.true c.requires) }

pub loop-preserved : goal.loop-preserved
loop-preserved c =
    let next = next_fields c.loop.counter c.args.count c.args.preds.now c.loop.invariant.behind c.push_pred-at.ensures.value in
    record {
      inside = omega (arith, next, next_ends c.loop.counter c.args.count c.args.preds.now c.loop.invariant.behind c.loop-test.true c.requires);
      behind = next;
      wrote = wrote_as (wrote_then c.loop.invariant.wrote c.push_pred-at.ensures.wrote) (next_wrote c.loop.counter c.args.count c.args.preds.now c.loop.invariant.behind);
    }
