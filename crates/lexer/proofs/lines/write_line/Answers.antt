-- `lexer::lines::write_line` meets its contract.
use Rattle.lexer.proofs.Parts.{put-line}
use Rattle.std.proofs.Common.{rules}
use Rattle.lexer.proofs.lines.write_line.Goals as goal

pub returns : goal.returns
returns c = search (rules, put-line)
