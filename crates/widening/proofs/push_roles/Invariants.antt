use Rattle.buffer.specs.Written.{Wrote}
use Rattle.widening.specs.Widened.{roles_widened}
use Rattle.widening.proofs.push_roles.Given as goal

abbrev pub invariant-loop-i : goal.invariant-loop-i
invariant-loop-i l = Wrote l.initial.out (roles_widened l.i l.roles) l.out
