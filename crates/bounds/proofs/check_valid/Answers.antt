-- The table is short, or of any length.
use Rattle.bounds.proofs.Tables.{takes_any, takes_short}
use Rattle.std.proofs.Common.{rules}
use Rattle.bounds.proofs.check_valid.Goals as goal

pub check_within-requires-clause-takes : goal.check_within-requires-clause-takes
check_within-requires-clause-takes c = takes_short c.requires.valid_totals.valid (search rules)

pub check_within-requires-2-clause-takes : goal.check_within-requires-2-clause-takes
check_within-requires-2-clause-takes c = takes_any c.requires.valid_totals.valid
