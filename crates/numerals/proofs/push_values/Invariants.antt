-- `numerals::push_values` meets its contract. The numbers left come to the whole.
use Rattle.std.proofs.Common.{◌-◌, drop}
use Rattle.orm.specs.Text.{values_text}
use Rattle.buffer.specs.Written.{Writing}
use Rattle.numerals.specs.Lines.{numbers_from}
use Rattle.numerals.proofs.push_values.Given as goal

abbrev pub invariant-loop-i : goal.invariant-loop-i
invariant-loop-i l =
    Writing l.initial.out (values_text (numbers_from (drop l.p l.xs) 0 l.n)) l.out (values_text (numbers_from (drop l.p l.xs) l.i (l.n - l.i)))
