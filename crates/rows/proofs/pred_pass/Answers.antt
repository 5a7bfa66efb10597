-- `rows::pred_pass` meets its contract. The three tests are told.
use Rattle.rows.proofs.Passing.{pred-told}
use Rattle.std.proofs.Common.{rules}
use Rattle.rows.proofs.pred_pass.Goals as goal

pub returns : goal.returns
returns c = search (rules, pred-told)
