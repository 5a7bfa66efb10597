-- Of the sets only those that the round lowered can be below.
use Rattle.std.proofs.Common.{rules}
use Rattle.rounds.proofs.Running.{changed-is, listed-wrote, listed-within, listed_below, step-paired}
use Rattle.rounds.proofs.Rounds.step_changed.Goals as goal

pub first_changed-requires-clause-within : goal.first_changed-requires-clause-within
first_changed-requires-clause-within c = search (rules, listed-within)

pub first_changed-requires-clause-lower_len : goal.first_changed-requires-clause-lower_len
first_changed-requires-clause-lower_len c = search (rules, step-paired)

pub first_changed-requires-clause-below : goal.first_changed-requires-clause-below
first_changed-requires-clause-below c = search (rules, listed_below)

pub returns : goal.returns
returns c = search (rules, changed-is, listed-wrote)
