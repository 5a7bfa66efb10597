use Rattle.std.proofs.Common.{length, ◌≤◌, ◌≡◌}
use Rattle.tuples.specs.StoredLaws.{Walked}
use Rattle.tuples.proofs.tuple.Given as goal

abbrev pub invariant-loop-j : goal.invariant-loop-j
invariant-loop-j l = record {
  walked : Walked l.steps l.i l.to l.initial.out l.j l.x l.out;
  small : l.x ≤ l.i;
  long : length l.out ≡ length l.initial.out;
  first : 1 ≤ length l.steps → 1 ≤ l.j;
}
