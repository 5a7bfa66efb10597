-- The columns of the group and then all are all columns.
use Rattle.rows.proofs.Groups.{all-keyed, k5-is, group-is}
use Rattle.std.proofs.Common.{rules}
use Rattle.rows.proofs.first_tests.Goals as goal

pub invariant_of-keys : goal.invariant_of-keys
invariant_of-keys c = search (rules, all-keyed)

pub returns-clause-differ_value : goal.returns-clause-differ_value
returns-clause-differ_value c = search (rules, k5-is)

pub returns-clause-kept_value : goal.returns-clause-kept_value
returns-clause-kept_value c = search (rules, group-is)
