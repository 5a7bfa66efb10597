-- `playing::role_pass` meets its contract. A role that the type does not play changes nothing.
use Rattle.playing.proofs.Walk.{role-other, role-own}
use Rattle.std.proofs.Common.{rules}
use Rattle.playing.proofs.role_pass.Goals as goal

pub returns-then-field-number : goal.returns-then-field-number
returns-then-field-number c = search (rules, role-other)

pub returns : goal.returns
returns c = search (rules, role-own)
