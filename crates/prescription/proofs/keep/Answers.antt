-- `prescription::keep` meets its contract. The answer is populating's, with 11 in place of 7.
use Rattle.prescription.proofs.Answers.{kept-impossible, kept-other}
use Rattle.std.proofs.Common.{rules}
use Rattle.prescription.proofs.keep.Goals as goal

pub returns-in-Err-Emptied : goal.returns-in-Err-Emptied
returns-in-Err-Emptied c =
    kept-impossible c.args.t.now c.args.number c.args.wanted c.args.cells.now c.populate_valid-settled.ensures c.in-Err-Emptied.is (search rules)

pub returns-in_default : goal.returns-in_default
returns-in_default c =
    kept-other c.args.t.now c.args.number c.args.wanted c.args.cells.now c.populate_valid-settled.ensures (search rules)

pub returns-in_default-2 : goal.returns-in_default-2
returns-in_default-2 c =
    kept-other c.args.t.now c.args.number c.args.wanted c.args.cells.now c.populate_valid-settled.ensures (search rules)
