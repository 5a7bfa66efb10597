use Rattle.std.proofs.Common.{rules}
use Rattle.lines.proofs.Laws.{passed_none, passed-more, passed-to_feed, passed-all}
use Rattle.lines.proofs.line_at.Goals as goal

pub loop-i-init : goal.loop-i-init
loop-i-init c = search (rules, passed_none)

pub returns-then-text-i-eq10 : goal.returns-then-text-i-eq10
returns-then-text-i-eq10 c = search (rules, passed-to_feed)

pub loop-i-preserved : goal.loop-i-preserved
loop-i-preserved c = search (rules, passed-more)

pub returns : goal.returns
returns c = search (rules, passed-all)
