-- `numerals::push_lines` meets its contract. The lines left come to the whole.
use Rattle.std.proofs.Common.{◌-◌, drop}
use Rattle.buffer.specs.Written.{Writing}
use Rattle.numerals.specs.Lines.{keyed_lines}
use Rattle.numerals.proofs.push_lines.Given as goal

abbrev pub invariant-loop : goal.invariant-loop
invariant-loop l =
    Writing l.initial.out (keyed_lines l.key l.n l.count (drop l.p l.xs)) l.out (keyed_lines l.key l.n (l.count - l.counter) (drop l.q l.xs))
