use Rattle.std.proofs.Common.{rules}
use Rattle.lexer.proofs.Prefixes.{line_feed, comma}
use Rattle.lexer.proofs.keys.separator.Goals as goal

pub returns-then-left-eq0 : goal.returns-then-left-eq0
returns-then-left-eq0 c = search (rules, line_feed)

pub returns-else-left-eq0 : goal.returns-else-left-eq0
returns-else-left-eq0 c = search (rules, comma)
