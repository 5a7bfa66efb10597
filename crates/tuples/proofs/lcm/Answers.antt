-- `tuples::lcm` meets its contract. From the table, or by Euclid's algorithm.
use Rattle.pairing.proofs.Laws.Multiples.{listed-is}
use Rattle.std.proofs.Common.{rules}
use Rattle.tuples.proofs.lcm.Goals as goal

pub multiple-requires : goal.multiple-requires
multiple-requires c = search (rules, listed-is)
