-- `report::push_report` meets its contract. Its parts are written one after another.
use Rattle.report.proofs.Steps.{report-is}
use Rattle.std.proofs.Common.{rules}
use Rattle.report.proofs.push_report.Goals as goal

pub returns : goal.returns
returns c = search (rules, report-is)
