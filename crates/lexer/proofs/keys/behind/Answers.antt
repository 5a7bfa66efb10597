use Rattle.std.proofs.Common.{rules}
use Rattle.lexer.proofs.Prefixes.{found-there, found-other, found-behind}
use Rattle.lexer.proofs.keys.behind.Goals as goal

pub returns-in_err-get-clause-value : goal.returns-in_err-get-clause-value
returns-in_err-get-clause-value c = search (rules, found-behind)

pub returns-then-starts_with-clause-value : goal.returns-then-starts_with-clause-value
returns-then-starts_with-clause-value c = search (rules, found-there)

pub returns-else-starts_with-clause-value : goal.returns-else-starts_with-clause-value
returns-else-starts_with-clause-value c = search (rules, found-other)
