-- `vectors_averages::push_float` is safe and ends. What is no NaN has bits.
use Rattle.vectors_averages.proofs.Number.{is_number}
use Rattle.std.proofs.Common.{rules}
use Rattle.vectors_averages.proofs.push_float.Goals as goal

pub float_to_bits-x : goal.float_to_bits-x
float_to_bits-x c = search (rules, is_number)
