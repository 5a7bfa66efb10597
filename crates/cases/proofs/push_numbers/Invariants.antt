-- `cases::push_numbers` meets its contract. The numbers that are left come to the whole.
use Rattle.std.proofs.Common.{drop}
use Rattle.buffer.specs.Written.{Writing}
use Rattle.cases.specs.Numbers.{numbers_from}
use Rattle.cases.proofs.push_numbers.Given as goal

abbrev pub invariant-loop-b : goal.invariant-loop-b
invariant-loop-b l = Writing l.initial.out (numbers_from 0 l.text) l.out (numbers_from l.v (drop l.b-index l.text))
