-- `limits::ranges::type_upper` meets its contract. It is MAX, or the smaller of MAX and the number of values in the type's range.
use Rattle.limits.proofs.Starts.{upper-none, upper-values, upper-most}
use Rattle.std.proofs.Common.{rules}
use Rattle.limits.proofs.ranges.type_upper.Goals as goal

pub returns-then-not-has_range : goal.returns-then-not-has_range
returns-then-not-has_range c = search (rules, upper-none)

pub returns-then-v-most : goal.returns-then-v-most
returns-then-v-most c = search (rules, upper-values)

pub returns-else-v-most : goal.returns-else-v-most
returns-else-v-most c = search (rules, upper-most)
