use Rattle.std.proofs.Common.{rules, arith, length, ◌≤◌, ◌<◌}
use Rattle.tuples.specs.StoredLaws.{walked_none, walked_more, walked_empty, walked_all}
use Rattle.tuples.proofs.tuple.Goals as goal

pub loop-j-init : goal.loop-j-init
loop-j-init c = record { walked = walked_none c.args.steps.now c.args.i c.args.to c.args.out.now (omega arith); small = omega arith; long = search rules; first = λ h. h }

pub loop-j-preserved : goal.loop-j-preserved
loop-j-preserved c = record { walked = walked_more c.args.steps.now c.args.i c.args.to c.args.out.now c.loop-j.invariant.walked c.loop-j-test.true c.loop-j.auto.j _ c.split-before.ensures.before c.split-before.ensures.entry; small = search rules; long = search rules; first = λ h. omega arith }

pub returns-then-not-is_empty : goal.returns-then-not-is_empty
returns-then-not-is_empty c =
    let some : 0 < length c.args.steps.now = search rules in
    walked_all c.args.steps.now c.args.i c.args.to c.args.out.now c.loop-j.invariant.walked some (c.loop-j.invariant.first (omega arith)) (search rules)

pub returns-else-not-is_empty : goal.returns-else-not-is_empty
returns-else-not-is_empty c =
    let none : length c.args.steps.now ≤ 0 = search rules in
    walked_empty c.args.steps.now c.args.i c.args.to c.args.out.now c.loop-j.invariant.walked none
