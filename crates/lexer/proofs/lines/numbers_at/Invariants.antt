-- The numbers so far, and those that follow the position at hand, come to the whole line.
use Rattle.std.proofs.Common.{◌≡◌, ◌≤◌, length}
use Rattle.lexer.proofs.Fields.{Numbers}
use Rattle.lexer.proofs.lines.numbers_at.Given as goal

abbrev pub invariant-loop-i : goal.invariant-loop-i
invariant-loop-i l = record {
  inside : l.at ≤ length l.text;
  long : length l.out ≡ length l.initial.out;
  rest : Numbers l.text l.n l.start l.i l.at l.initial.out l.out;
}
