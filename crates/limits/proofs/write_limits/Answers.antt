use Rattle.limits.proofs.Walked.{limits_is, first-played}
use Rattle.std.proofs.Common.{rules}
use Rattle.limits.proofs.write_limits.Goals as goal

pub push_types-requires-clause-played : goal.push_types-requires-clause-played
push_types-requires-clause-played c = search (rules, first-played)

pub returns : goal.returns
returns c = search (rules, limits_is)
