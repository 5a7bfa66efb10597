-- What was noted and the types left come to all.
use Rattle.std.proofs.Common.{◌≡◌, length}
use Rattle.faults.specs.Passes.{type_faults}
use Rattle.table.specs.Positions.{diagram_of}
use Rattle.playing.specs.Places.{population_of}
use Rattle.types.proofs.Walked.{Left}
use Rattle.types.proofs.pass.Given as goal

abbrev pub invariant-loop-i : goal.invariant-loop-i
invariant-loop-i l =
    record {
      list : length l.list ≡ length l.initial.list;
      spare : length l.spare ≡ length l.initial.spare;
      left : Left (type_faults (diagram_of l.blocks.table.now) (population_of l.blocks.table.now l.blocks.cells.now)) l.blocks.table.now
          l.blocks.cells.now l.initial.faults.lowest l.faults.lowest l.i;
    }
