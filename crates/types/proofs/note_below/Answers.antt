-- `types::note_below` meets its contract. Of a type that is not below it nothing is told.
use Rattle.types.proofs.Members.{below-not, below-is}
use Rattle.std.proofs.Common.{rules}
use Rattle.types.proofs.note_below.Goals as goal

pub returns-then-field-number : goal.returns-then-field-number
returns-then-field-number c = search (rules, below-not)

pub returns : goal.returns
returns c = search (rules, below-is)
