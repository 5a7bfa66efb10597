-- `propagation::fit` meets its contract. A buffer that is too short stays as it is.
use Rattle.propagation.proofs.Answers.{fit-short, fit-whole, known-walkable, known-few, known-groups}
use Rattle.std.proofs.Common.{rules}
use Rattle.propagation.proofs.fit.Goals as goal

pub returns-then-sizes-sets : goal.returns-then-sizes-sets
returns-then-sizes-sets c = search (rules, fit-short)

pub count-requires : goal.count-requires
count-requires c = search (rules, known-few)

pub write_upper-requires : goal.write_upper-requires
write_upper-requires c = search (rules, known-walkable, known-groups)

pub returns : goal.returns
returns c = search (rules, fit-whole)
