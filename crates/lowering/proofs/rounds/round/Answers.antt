use Rattle.lowering.specs.Laws.Lowered.{round_made}
use Rattle.lowering.specs.Coded.{limit_of}
use Rattle.lowering.proofs.rounds.round.Goals as goal

pub returns : goal.returns
returns c = round_made (limit_of c.args.limits.now.operands.now) c.args.limits.now.limits.now c.args.old.now c.loop-limit-test.false c.loop-limit.invariant.made
