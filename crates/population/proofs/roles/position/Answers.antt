use Rattle.std.proofs.Common.{rules}
use Rattle.population.proofs.RoleLaws.{position_start, position_here, position_more, position_all}
use Rattle.population.proofs.roles.position.Goals as goal

pub loop-i-init : goal.loop-i-init
loop-i-init c = search (rules, position_start)

pub returns-then-list-i : goal.returns-then-list-i
returns-then-list-i c = search (rules, position_here)

pub loop-i-preserved : goal.loop-i-preserved
loop-i-preserved c = search (rules, position_more)

pub returns : goal.returns
returns c = search (rules, position_all)
