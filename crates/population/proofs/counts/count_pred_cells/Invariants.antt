use Rattle.std.proofs.Common.{length, ◌+◌, ◌*◌, ◌≤◌, ◌≡◌}
use Rattle.population.proofs.PredLaws.{Walking, cells_to}
use Rattle.population.proofs.counts.count_pred_cells.Given as goal

abbrev pub invariant-loop : goal.invariant-loop
invariant-loop l = record {
  walking : Walking l.t l.x l.counter;
  value : l.n ≡ length (cells_to l.t l.c l.counter);
  small : l.n ≤ (1 + 4096 * 160) * l.counter;
}
