use Rattle.std.proofs.Common.{rules, refl}
use Rattle.lowering.specs.Coded.{limit_of}
use Rattle.dependents.proofs.Walks.{walking_start, walk_at, walk_more, walk_used}
use Rattle.dependents.proofs.rounds.lower_dependents.Goals as goal

pub loop-q-init : goal.loop-q-init
loop-q-init c = search (rules, walking_start)

pub loop-q-preserved : goal.loop-q-preserved
loop-q-preserved c =
    let w = c.loop-q.invariant in
    walk_more w c.loop-q-test.true (walk_at w c.loop-q-test.true (limit_of c.args.limits.now.operands.now) c.args.limits.now.limits.now _ refl) c.lower_by.ensures

pub returns : goal.returns
returns c = search (rules, walk_used)
