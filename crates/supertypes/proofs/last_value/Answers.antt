use Rattle.supertypes.proofs.Climbs.{last-value-is}
use Rattle.std.proofs.Common.{rules}
use Rattle.supertypes.proofs.last_value.Goals as goal

pub returns : goal.returns
returns c = search (rules, last-value-is)
