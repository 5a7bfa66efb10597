use Rattle.columns.specs.Values.{length-spaced}
use Rattle.lookup.proofs.Walks.{meeting_start, meeting-small, meeting_more, meeting-inside, meeting-outside}
use Rattle.std.proofs.Common.{rules}
use Rattle.lookup.proofs.meet.Goals as goal

pub loop-i-init : goal.loop-i-init
loop-i-init c = search (rules, meeting_start, length-spaced)

pub meet_value-met-requires-clause-count_bound : goal.meet_value-met-requires-clause-count_bound
meet_value-met-requires-clause-count_bound c = search (rules, meeting-small, length-spaced)

pub loop-i-preserved : goal.loop-i-preserved
loop-i-preserved c = search (rules, meeting_more)

pub returns-then-met : goal.returns-then-met
returns-then-met c = search (rules, meeting-inside)

pub returns-else-met : goal.returns-else-met
returns-else-met c = search (rules, meeting-outside)
