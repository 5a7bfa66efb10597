-- What is lent has room for the types of the roles and for the limits.
use Rattle.propagation.proofs.Problems.{known-listable, limits_posed}
use Rattle.std.proofs.Common.{rules}
use Rattle.propagation.proofs.ready.Goals as goal

pub limits_of-requires : goal.limits_of-requires
limits_of-requires c = search (rules, known-listable)

pub returns : goal.returns
returns c = limits_posed c.requires.counted c.limits_of.ensures.encoded c.requires.room
