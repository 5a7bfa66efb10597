-- `populate::populate_settled` meets its contract. A buffer that is too short stays as it is.
use Rattle.populate.proofs.Answers.{fit-short, fit-whole}
use Rattle.std.proofs.Common.{rules}
use Rattle.populate.proofs.populate_settled.Goals as goal

pub returns-then-cells-needed : goal.returns-then-cells-needed
returns-then-cells-needed c = search (rules, fit-short)

pub returns : goal.returns
returns c = search (rules, fit-whole)
