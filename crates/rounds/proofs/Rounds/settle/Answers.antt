-- No upper bound is below its lower bound at the start, or the run ends there.
use Rattle.std.proofs.Common.{rules}
use Rattle.rounds.proofs.Running.{start_none, start-outcome, start-upper, start-next, start-listed, start-links}
use Rattle.rounds.proofs.Running.{ended-upper, ended-next, ended-listed, ended-links}
use Rattle.rounds.proofs.Rounds.settle.Goals as goal

pub returns-in-Some-clause-value : goal.returns-in-Some-clause-value
returns-in-Some-clause-value c = search (rules, start-outcome)

pub returns-in-Some-clause-upper_after : goal.returns-in-Some-clause-upper_after
returns-in-Some-clause-upper_after c = search (rules, start-upper)

pub returns-in-Some-clause-next_after : goal.returns-in-Some-clause-next_after
returns-in-Some-clause-next_after c = search (rules, start-next)

pub returns-in-Some-clause-changed_after : goal.returns-in-Some-clause-changed_after
returns-in-Some-clause-changed_after c = search (rules, start-listed)

pub returns-in-Some-clause-links_after : goal.returns-in-Some-clause-links_after
returns-in-Some-clause-links_after c = search (rules, start-links)

pub rounds_from-requires-clause-above : goal.rounds_from-requires-clause-above
rounds_from-requires-clause-above c = search (rules, start_none)

pub returns-clause-upper_after : goal.returns-clause-upper_after
returns-clause-upper_after c = search (rules, ended-upper)

pub returns-clause-next_after : goal.returns-clause-next_after
returns-clause-next_after c = search (rules, ended-next)

pub returns-clause-changed_after : goal.returns-clause-changed_after
returns-clause-changed_after c = search (rules, ended-listed)

pub returns-clause-links_after : goal.returns-clause-links_after
returns-clause-links_after c = search (rules, ended-links)
