use Rattle.std.proofs.Common.{rules}
use Rattle.rounds.proofs.Running.{step_is, listed-wrote}
use Rattle.rounds.proofs.Rounds.step.Goals as goal

pub returns : goal.returns
returns c = search (rules, step_is, listed-wrote)
