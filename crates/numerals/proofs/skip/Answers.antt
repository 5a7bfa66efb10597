-- `numerals::skip` meets its contract. Past the end nothing is left.
use Rattle.numerals.proofs.Writing.{skip_past}
use Rattle.std.proofs.Common.{rules}
use Rattle.numerals.proofs.skip.Goals as goal

pub returns-then-rest-n : goal.returns-then-rest-n
returns-then-rest-n c = search (rules, skip_past)
