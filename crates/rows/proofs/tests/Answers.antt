-- `rows::tests` meets its contract. The size is tested by itself, the rest by orders of the rows.
use Rattle.order.specs.Parts.{scratch-still}
use Rattle.rows.proofs.Groups.{k6-is}
use Rattle.std.proofs.Common.{rules}
use Rattle.rows.proofs.tests.Goals as goal

pub groups_keep-requires-clause-scratch : goal.groups_keep-requires-clause-scratch
groups_keep-requires-clause-scratch c = search (rules, scratch-still)

pub returns-clause-sized_value : goal.returns-clause-sized_value
returns-clause-sized_value c = search (rules, k6-is)
