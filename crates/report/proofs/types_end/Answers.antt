use Rattle.report.proofs.Steps.{end_more, end_none}
use Rattle.std.proofs.Common.{rules}
use Rattle.report.proofs.types_end.Goals as goal

pub loop-preserved : goal.loop-preserved
loop-preserved c = search (rules, end_more)

pub returns : goal.returns
returns c = search (rules, end_none)
