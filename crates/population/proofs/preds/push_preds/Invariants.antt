use Rattle.std.proofs.Common.{◌-◌}
use Rattle.buffer.specs.Written.{Wrote}
use Rattle.table.specs.Positions.{pred_count}
use Rattle.population.proofs.PredLaws.{Walking, FewLeft, cells_to}
use Rattle.population.proofs.preds.push_preds.Given as goal

abbrev pub invariant-loop : goal.invariant-loop
invariant-loop l = record {
  walking : Walking l.t l.x l.counter;
  few : FewLeft l.t l.x (pred_count l.t - l.counter);
  wrote : Wrote l.initial.out (cells_to l.t l.c l.counter) l.out;
}
