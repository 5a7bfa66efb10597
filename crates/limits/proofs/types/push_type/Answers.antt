use Rattle.limits.proofs.Walked.{own-plays}
use Rattle.limits.proofs.Limited.{type-held, type-free}
use Rattle.std.proofs.Common.{rules}
use Rattle.limits.proofs.types.push_type.Goals as goal

pub must_play-requires-clause-playing_value : goal.must_play-requires-clause-playing_value
must_play-requires-clause-playing_value c = search (rules, own-plays)

pub returns-then-must_play : goal.returns-then-must_play
returns-then-must_play c = search (rules, type-held)

pub returns-else-must_play : goal.returns-else-must_play
returns-else-must_play c = search (rules, type-free)
