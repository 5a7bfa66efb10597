-- `multiples::table::number` meets its contract: the constant's numbers are those of the definition, by one computation over the whole table.
use mathlib.Core.Path.{refl}
use mathlib.Core.List.{flatten}
use Rattle.counting.specs.Lists.{up_from}
use Rattle.pairing.specs.Pairing.{gcd_within, gcd, lcm}
use Rattle.pairing.specs.Multiples.{multiple_rows, multiples}
use Rattle.multiples.proofs.table.number.Goals as goal

pub returns : goal.returns
unfolding flatten up_from gcd_within gcd lcm multiple_rows multiples
returns c = refl
