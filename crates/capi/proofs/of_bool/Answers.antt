-- `capi::of_bool` meets its contract. 1 for true, 0 for false.
use Rattle.capi.proofs.Stored.{bit-yes, bit_no}
use Rattle.std.proofs.Common.{rules}
use Rattle.capi.proofs.of_bool.Goals as goal

pub returns-then-x : goal.returns-then-x
returns-then-x c = search (rules, bit-yes)

pub returns-else-x : goal.returns-else-x
returns-else-x c = search (rules, bit_no)
