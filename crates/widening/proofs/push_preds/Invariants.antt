use Rattle.std.proofs.Common.{◌≡◌, ◌≤◌, length}
use Rattle.buffer.specs.Written.{Wrote}
use Rattle.widening.specs.Widened.{preds_fields, preds_widened}
use Rattle.widening.proofs.push_preds.Given as goal

abbrev pub invariant-loop : goal.invariant-loop
invariant-loop l = record {
  inside : l.at ≤ length l.preds;
  behind : l.at ≡ preds_fields l.counter l.preds;
  wrote : Wrote l.initial.out (preds_widened l.counter l.preds) l.out;
}
