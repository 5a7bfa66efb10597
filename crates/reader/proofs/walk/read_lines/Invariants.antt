-- `reader::walk::read_lines` meets its contract. The walk from the place at hand comes to the whole
-- walk, and what it writes to all that is written; the numbers so far leave room for a line.
use Prim.Native.Nat.{◌+◌, ◌-◌, ◌≤◌}
use mathlib.Core.Path.{◌≡◌}
use lib.ListN.{length}
use Rattle.reading.specs.WideTable.{most_numbers}
use Rattle.grammar.specs.Room.{Room}
use Rattle.reader.proofs.Stored.{Turn}
use Rattle.reader.proofs.walk.read_lines.Given as goal

abbrev pub invariant-loop-table : goal.invariant-loop-table
invariant-loop-table l =
    (length l.table ≡ most_numbers) × (l.number ≤ l.end + 1) × Room l.place l.end × Turn l.text l.initial.table l.table l.place l.number l.at l.end

abbrev pub decreases-loop-table : goal.decreases-loop-table
decreases-loop-table l = most_numbers - l.end
