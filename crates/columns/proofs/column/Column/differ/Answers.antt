-- Values differ where each occurs once.
use Rattle.columns.specs.Differ.{values-differ}
use Rattle.columns.specs.Reach.{column-keyed}
use Rattle.std.proofs.Common.{rules}
use Rattle.columns.proofs.column.Column.differ.Goals as goal

pub invariant_of-keys : goal.invariant_of-keys
invariant_of-keys c = search (rules, column-keyed)

pub returns : goal.returns
returns c = search (rules, values-differ)
