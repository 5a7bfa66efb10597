-- The digits from the position at hand on come to the whole number, which stays below a million.
use Rattle.std.proofs.Common.{◌≡◌, ◌+◌, ◌≤◌, ◌-◌, drop}
use Rattle.orm.specs.Text.{digits}
use Rattle.lexer.proofs.Digits.{FewDigits}
use Rattle.lexer.proofs.numbers.more_digits.Given as goal

abbrev pub invariant-loop-at : goal.invariant-loop-at
invariant-loop-at l = record {
  passed : l.at ≤ l.start + l.most;
  few : FewDigits l.value (l.start + l.most - l.at);
  rest : digits (l.start + l.most - l.at) l.value (drop l.at l.text) ≡ digits l.most l.first (drop l.start l.text);
}
