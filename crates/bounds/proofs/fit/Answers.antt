-- `bounds::fit` meets its contract. A buffer that is too short stays as it is.
use Rattle.bounds.proofs.Answers.{fit-short, fit-whole}
use Rattle.std.proofs.Common.{rules}
use Rattle.bounds.proofs.fit.Goals as goal

pub returns-then-sizes-res : goal.returns-then-sizes-res
returns-then-sizes-res c = search (rules, fit-short)

pub returns : goal.returns
returns c = search (rules, fit-whole)
