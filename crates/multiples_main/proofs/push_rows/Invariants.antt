-- `multiples_main::push_rows` meets its contract. The rows left come to the text.
use Rattle.std.proofs.Common.{◌-◌}
use Rattle.buffer.specs.Written.{Writing}
use Rattle.multiples_main.specs.Rows.{rows_text}
use Rattle.multiples_main.proofs.push_rows.Given as goal

abbrev pub invariant-loop-a : goal.invariant-loop-a
invariant-loop-a l = Writing l.initial.out (rows_text 1 64) l.out (rows_text l.a (65 - l.a))
