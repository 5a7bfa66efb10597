-- `limits::roles::role_upper` meets its contract. It is RMAX, or 4096 where RMAX is above.
use Rattle.limits.proofs.Starts.{role-below, role-most}
use Rattle.std.proofs.Common.{rules}
use Rattle.limits.proofs.roles.role_upper.Goals as goal

pub returns-then-most-lt4096 : goal.returns-then-most-lt4096
returns-then-most-lt4096 c = search (rules, role-below)

pub returns-else-most-lt4096 : goal.returns-else-most-lt4096
returns-else-most-lt4096 c = search (rules, role-most)
