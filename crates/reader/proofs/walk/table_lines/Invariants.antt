-- `reader::walk::table_lines` meets its contract. The walk from the place at hand comes to the whole walk.
use Prim.Native.Nat.{◌+◌, ◌-◌, ◌≤◌}
use lib.ListN.{length, take, drop}
use Rattle.reading.specs.WideTable.{most_numbers}
use Rattle.orm.specs.Text.{table_line}
use Rattle.grammar.specs.Room.{Room}
use Rattle.reader.proofs.Running.{Running}
use Rattle.reader.proofs.walk.table_lines.Given as goal

abbrev pub invariant-loop-line : goal.invariant-loop-line
invariant-loop-line l =
    (l.end ≤ length l.table) × (l.number ≤ l.end + 1) × Room l.place l.end × Running table_line l.table l.place (take l.end l.table) l.number (drop l.end l.table)

abbrev pub decreases-loop-line : goal.decreases-loop-line
decreases-loop-line l = most_numbers - l.end
