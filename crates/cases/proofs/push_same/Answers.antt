-- The answer in words.
use Rattle.std.proofs.Common.{rules}
use Rattle.cases.proofs.Lines.{same_word, differs_word}
use Rattle.cases.proofs.push_same.Goals as goal

pub returns-then-same : goal.returns-then-same
returns-then-same c = search (rules, same_word)

pub returns-else-same : goal.returns-else-same
returns-else-same c = search (rules, differs_word)
