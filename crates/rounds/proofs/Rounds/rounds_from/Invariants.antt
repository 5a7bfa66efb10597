-- The run from the upper bounds at hand comes to the whole run (`Turning`). The measure is the slack.
use Rattle.std.proofs.Common.{◌≡◌}
use Rattle.std.specs.Prelude.{None}
use Rattle.fixpoint.specs.Limits.{slack}
use Rattle.rounds.proofs.Running.{Turning}
use Rattle.rounds.proofs.Rounds.rounds_from.Given as goal

abbrev pub invariant-loop-set : goal.invariant-loop-set
invariant-loop-set l = (l.end ≡ None) × Turning l.limits l.lower l.initial.self l.initial.links l.n l.count l.self l.links

abbrev pub decreases-loop-set : goal.decreases-loop-set
decreases-loop-set l = slack l.lower l.self.upper.now
