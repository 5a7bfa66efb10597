use Rattle.std.proofs.Common.{fold, take, map, length, ◌≡◌}
use Rattle.fixpoint.specs.Limits.{lowered}
use Rattle.lowering.specs.Coded.{limit_of}
use Rattle.lowering.proofs.rounds.round.Given as goal

abbrev pub invariant-loop-limit : goal.invariant-loop-limit
invariant-loop-limit l = record {
  made : l.new ≡ fold (λ new m. lowered l.old m new) l.old (map (limit_of l.limits.operands.now) (take l.limit-index l.limits.limits.now));
  same : length l.new ≡ length l.old;
}
