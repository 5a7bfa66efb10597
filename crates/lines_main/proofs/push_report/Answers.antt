use Rattle.lines_main.proofs.Reporting.{reporting_start, reporting_line, reporting_less, reporting_left}
use Rattle.std.proofs.Common.{rules}
use Rattle.lines_main.proofs.push_report.Goals as goal

pub loop-start-init : goal.loop-start-init
loop-start-init c = search (rules, reporting_start)

pub loop-start-smaller : goal.loop-start-smaller
loop-start-smaller c = search (rules, reporting_less)

pub loop-start-preserved : goal.loop-start-preserved
loop-start-preserved c = search (rules, reporting_line)

pub returns-in-Nothing : goal.returns-in-Nothing
returns-in-Nothing c = search (rules, reporting_left)
