-- `capi::store_average` meets its contract. Each arm stores the numbers of its outcome, the second the float beside them.
use Rattle.capi.specs.Answers.{average_numbers, float_after}
use Rattle.std.proofs.Common.{rules}
use Rattle.capi.proofs.store_average.Goals as goal

pub returns-in-Ok-Whole : goal.returns-in-Ok-Whole
unfolding average_numbers float_after
returns-in-Ok-Whole c = search rules

pub returns-in-Ok-Fraction : goal.returns-in-Ok-Fraction
unfolding average_numbers float_after
returns-in-Ok-Fraction c = search rules

pub returns-in-Err : goal.returns-in-Err
unfolding average_numbers float_after
returns-in-Err c = search rules
