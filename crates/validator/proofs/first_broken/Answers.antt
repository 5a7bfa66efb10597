-- `validator::first_broken` meets its contract. No type has more members than there are cells, and none that keeps K2 more than 4,096.
use native.Mathlib.Omega.{arith}
use Rattle.validator.proofs.Passes.{room_of}
use Rattle.validator.proofs.first_broken.Goals as goal

pub first_by-requires-clause-room : goal.first_by-requires-clause-room
first_by-requires-clause-room c = room_of _ 64 (omega arith) (omega arith)

pub first_by-requires-2-clause-room : goal.first_by-requires-2-clause-room
first_by-requires-2-clause-room c = room_of _ 4096 (omega arith) (omega arith)
