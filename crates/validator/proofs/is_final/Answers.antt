-- `validator::is_final` meets its contract. Each arm is one of the answers.
use Rattle.validator.proofs.Passes.{final_valid, final_breaks}
use Rattle.std.proofs.Common.{rules}
use Rattle.validator.proofs.is_final.Goals as goal

pub returns-in-Valid : goal.returns-in-Valid
returns-in-Valid c = search (rules, final_valid)

pub returns-in-Breaks : goal.returns-in-Breaks
returns-in-Breaks c = search (rules, final_breaks)
