-- The limits of the operands behind q have been put to use. The measure is q.
use Rattle.lowering.specs.Coded.{limits_of}
use Rattle.dependents.proofs.Walks.{Walking}
use Rattle.dependents.proofs.rounds.lower_dependents.Given as goal

abbrev pub invariant-loop-q : goal.invariant-loop-q
invariant-loop-q l = Walking (limits_of l.limits) l.links.last.now l.links.uses.now l.s l.old l.initial.new l.q l.new

abbrev pub decreases-loop-q : goal.decreases-loop-q
decreases-loop-q l = l.q
