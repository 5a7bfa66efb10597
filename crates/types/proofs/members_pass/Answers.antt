-- `types::members_pass` meets its contract. Each fault is noted behind those before.
use Rattle.types.proofs.Members.{members-told, paired-rising}
use Rattle.std.proofs.Common.{rules}
use Rattle.types.proofs.members_pass.Goals as goal

pub is_in_range-ranged-requires-clause-rising : goal.is_in_range-ranged-requires-clause-rising
is_in_range-ranged-requires-clause-rising c = search (rules, paired-rising)

pub subtypes_pass-requires : goal.subtypes_pass-requires
subtypes_pass-requires c = search (rules, paired-rising)

pub returns : goal.returns
returns c = search (rules, members-told)
