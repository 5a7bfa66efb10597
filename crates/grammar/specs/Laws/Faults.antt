-- The numbers of the refusals of form.
use Rattle.std.specs.Prelude.{◌≤◌}
use Rattle.std.proofs.Common.{arith}
use Rattle.grammar.specs.Fault.{number_of}
use Rattle.grammar.specs.declared.Fault.{Fault}
use Rattle.grammar.specs.declared.Fault.TheVariants.{Malformed, OutOfRange, Unknown, Disordered, Unnamed, Miscounted}

pub few-faults : (f : Fault) → number_of f ≤ 6
few-faults Malformed = omega arith
few-faults OutOfRange = omega arith
few-faults Unknown = omega arith
few-faults Disordered = omega arith
few-faults Unnamed = omega arith
few-faults Miscounted = omega arith
