use Rattle.blocks.specs.Standing.{standing-start, standing_here, standing-inside, standing-more}
use Rattle.playing.proofs.Walk.{preds-start, preds-next, preds-end}
use Rattle.std.proofs.Common.{arith}
use Rattle.playing.proofs.preds_pass.Goals as goal

pub loop-i-init : goal.loop-i-init
loop-i-init c = record {
  standing = standing-start _ _ _ _ _ _ c.requires.populated c.args.blocks.now.located c.first_pred-line.ensures.value (omega arith)
      c.type_count-types.ensures.value (omega arith);
  left = preds-start _ _ _ _ _ _ _ c.requires.fresh c.args.blocks.now.located c.first_pred-line.ensures.value (omega arith)
      c.type_count-types.ensures.value (omega arith);
}

pub invariant_of-pred : goal.invariant_of-pred
invariant_of-pred c = record {
  walkable = c.args.blocks.now.walkable;
  here = standing_here _ _ _ _ _ _ c.loop-i.invariant.standing (omega (arith, c.loop-i-test.true, c.pred_count-i-end.ensures.value)) c.block.ensures;
  wide = c.width.ensures.value;
}

pub next_pred-line-requires-clause-t_in_bounds : goal.next_pred-line-requires-clause-t_in_bounds
next_pred-line-requires-clause-t_in_bounds c =
    standing-inside _ _ _ _ _ _ c.loop-i.invariant.standing (omega (arith, c.loop-i-test.true, c.pred_count-i-end.ensures.value))

pub loop-i-preserved : goal.loop-i-preserved
loop-i-preserved c = record {
  standing = standing-more _ _ _ _ _ _ c.loop-i.invariant.standing (omega (arith, c.loop-i-test.true, c.pred_count-i-end.ensures.value))
      c.next_pred-line.ensures (omega arith) (omega arith);
  left = preds-next _ _ _ _ _ _ _ _ _ _ _ _ _ c.loop-i.invariant.left (rw c.block.ensures at c.roles_pass.ensures) c.loop-i.invariant.standing
      (omega (arith, c.loop-i-test.true, c.pred_count-i-end.ensures.value)) c.next_pred-line.ensures (omega arith) (omega arith) (omega arith);
}

pub returns : goal.returns
returns c =
    preds-end _ _ _ _ _ _ _ _ _ _ _ _ _ c.loop-i.invariant.left (omega (arith, c.loop-i-test.false, c.pred_count-i-end.ensures.value))
