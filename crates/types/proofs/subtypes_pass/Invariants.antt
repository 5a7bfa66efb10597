-- What was noted and the types left come to all.
use Rattle.faults.specs.Passes.{subtype_faults}
use Rattle.types.proofs.Walked.{Left}
use Rattle.types.proofs.subtypes_pass.Given as goal

abbrev pub invariant-loop-i : goal.invariant-loop-i
invariant-loop-i l = Left (subtype_faults l.number l.list) l.blocks.table.now l.blocks.cells.now l.initial.faults.lowest l.faults.lowest l.i
