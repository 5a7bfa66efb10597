use Rattle.supertypes.proofs.Climbs.{first-value-is}
use Rattle.std.proofs.Common.{rules}
use Rattle.supertypes.proofs.first_value.Goals as goal

pub returns : goal.returns
returns c = search (rules, first-value-is)
