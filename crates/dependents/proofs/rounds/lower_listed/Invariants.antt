-- The limits of the first sets have been put to use.
use Rattle.lowering.specs.Coded.{limits_of}
use Rattle.dependents.proofs.Walks.{Listing}
use Rattle.dependents.proofs.rounds.lower_listed.Given as goal

abbrev pub invariant-loop-s : goal.invariant-loop-s
invariant-loop-s l = Listing (limits_of l.limits) l.sets l.old l.s-index l.new
