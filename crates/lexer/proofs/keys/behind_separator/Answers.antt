use Rattle.std.proofs.Common.{rules}
use Rattle.lexer.proofs.Prefixes.{byte-behind, byte-there, byte-other}
use Rattle.lexer.proofs.keys.behind_separator.Goals as goal

pub returns-in_err-get-clause-value : goal.returns-in_err-get-clause-value
returns-in_err-get-clause-value c = search (rules, byte-behind)

pub returns-then-branch-separator-clause-value : goal.returns-then-branch-separator-clause-value
returns-then-branch-separator-clause-value c = search (rules, byte-there)

pub returns-else-branch-separator-clause-value : goal.returns-else-branch-separator-clause-value
returns-else-branch-separator-clause-value c = search (rules, byte-other)
