-- `reader::hand_out` meets its contract.
use Rattle.reader.proofs.Copied.{short-outcome, short-kept, fits-outcome, fits-written}
use Rattle.std.proofs.Common.{rules}
use Rattle.reader.proofs.hand_out.Goals as goal

pub returns-then-table-n : goal.returns-then-table-n
returns-then-table-n c = search (rules, short-outcome, short-kept)

pub returns : goal.returns
returns c = search (rules, fits-outcome, fits-written)
