-- `types::note_size` meets its contract. K1 is noted before K2.
use Rattle.types.proofs.Members.{size-noted}
use Rattle.std.proofs.Common.{rules}
use Rattle.types.proofs.note_size.Goals as goal

pub returns : goal.returns
returns c = search (rules, size-noted)
