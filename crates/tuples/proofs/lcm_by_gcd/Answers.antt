-- `tuples::lcm_by_gcd` meets its contract. The product over the gcd.
use Rattle.tuples.proofs.Numbers.{product-fits, lcm-is}
use Rattle.std.proofs.Common.{rules}
use Rattle.tuples.proofs.lcm_by_gcd.Goals as goal

pub overflow_mul-a : goal.overflow_mul-a
overflow_mul-a c = search (rules, product-fits)

pub returns : goal.returns
returns c = search (rules, lcm-is)
