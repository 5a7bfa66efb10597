-- The first group and those left come to all.
use Rattle.std.proofs.Common.{◌≡◌, ◌+◌, ◌*◌, ◌-◌, length}
use Rattle.rows.proofs.Groups.{GroupsLeft}
use Rattle.rows.proofs.groups_keep.Given as goal

abbrev pub invariant-loop-i : goal.invariant-loop-i
invariant-loop-i l =
    record {
      list : length l.list ≡ length l.initial.list;
      spare : length l.spare ≡ length l.initial.spare;
      left : GroupsLeft l.t l.pred l.rows (l.lines + 2 * l.i) (l.i + 1) (l.count - l.i);
    }
