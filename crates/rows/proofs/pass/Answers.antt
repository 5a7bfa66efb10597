use Rattle.blocks.specs.Standing.{standing-inside}
use Rattle.order.specs.Parts.{scratch-still}
use Rattle.rows.proofs.Groups.{pred-rows}
use Rattle.rows.proofs.Passing.{noting_start, noting_more, noting_end}
use Rattle.std.proofs.Common.{rules, arith, refl}
use Rattle.rows.proofs.pass.Goals as goal

pub loop-i-init : goal.loop-i-init
loop-i-init c = record {
  list = refl;
  spare = refl;
  left = noting_start _ _ _ _ c.requires.populated c.args.blocks.now.located c.first_pred-pred.ensures.value (omega arith)
      c.type_count-types.ensures.value (omega arith);
}

pub next_pred-next-requires-clause-t_in_bounds : goal.next_pred-next-requires-clause-t_in_bounds
next_pred-next-requires-clause-t_in_bounds c =
    standing-inside _ _ _ _ _ _ c.loop-i.invariant.left.standing (omega (arith, c.loop-i-test.true, c.pred_count-i-end.ensures.value))

pub pred_pass-requires-clause-pred_rows : goal.pred_pass-requires-clause-pred_rows
pred_pass-requires-clause-pred_rows c =
    pred-rows _ _ _ _ _ (rw c.width.ensures.value at c.rows-rows.ensures) _ _ _ c.loop-i.invariant.left.standing
    (omega (arith, c.loop-i-test.true, c.pred_count-i-end.ensures.value)) refl

pub pred_pass-requires-clause-scratch : goal.pred_pass-requires-clause-scratch
pred_pass-requires-clause-scratch c = scratch-still _ _ c.requires.scratch c.loop-i.invariant.list c.loop-i.invariant.spare

pub loop-i-preserved : goal.loop-i-preserved
loop-i-preserved c = record {
  list = search rules;
  spare = search rules;
  left = noting_more _ _ _ _ _ _ _ _ _ _ c.pred_pass.ensures (rw c.width.ensures.value at c.rows-rows.ensures) c.loop-i.invariant.left
      (omega (arith, c.loop-i-test.true, c.pred_count-i-end.ensures.value)) c.next_pred-next.ensures (omega arith) (omega arith) (omega arith);
}

pub returns : goal.returns
returns c =
    noting_end _ _ _ _ _ _ _ _ _ c.loop-i.invariant.left (omega (arith, c.loop-i-test.false, c.pred_count-i-end.ensures.value))
