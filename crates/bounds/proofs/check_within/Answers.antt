-- There is room for so much.
use Rattle.std.proofs.Common.{rules}
use Rattle.bounds.proofs.Tables.{space_so}
use Rattle.bounds.proofs.check_within.Goals as goal

pub check_in-requires-clause-space : goal.check_in-requires-clause-space
check_in-requires-clause-space g c = space_so c.requires.takes c.new-out.ensures (search rules) (search rules) (search rules) (search rules) (search rules) (search rules) (search rules) (search rules)
