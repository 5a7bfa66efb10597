-- Document 01's number of a fault, and of the first fault of a line.
use Rattle.std.specs.Prelude.{ℕ, Result, Ok, Err}
use Rattle.std.proofs.Math.Option.{Option, none, some}
use Rattle.grammar.specs.declared.Fault.{Fault}
use Rattle.grammar.specs.declared.Fault.TheVariants.{Malformed, OutOfRange, Unknown, Disordered, Unnamed, Miscounted}

abbrev pub number_of : Fault → ℕ
number_of Malformed = 1
number_of OutOfRange = 2
number_of Unknown = 3
number_of Disordered = 4
number_of Unnamed = 5
number_of Miscounted = 6

abbrev pub fault_of : Result Unit Fault → Option ℕ
fault_of (Ok u) = none
fault_of (Err f) = some (number_of f)
