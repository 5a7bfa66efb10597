-- `multiples_main::push_row` meets its contract. The numbers left come to the row.
use Rattle.std.proofs.Common.{◌-◌}
use Rattle.buffer.specs.Written.{Writing}
use Rattle.multiples_main.specs.Rows.{row_text}
use Rattle.multiples_main.proofs.push_row.Given as goal

abbrev pub invariant-loop-b : goal.invariant-loop-b
invariant-loop-b l = Writing l.initial.out (row_text l.a 1 64) l.out (row_text l.a l.b (65 - l.b))
