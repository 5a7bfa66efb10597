use Rattle.std.proofs.Common.{rules}
use Rattle.population.proofs.Writing.{wrote_none, wrote_more}
use Rattle.population.proofs.RoleLaws.{columns_none, columns_more, columns_all}
use Rattle.population.proofs.roles.push_columns.Goals as goal

pub loop-i-init : goal.loop-i-init
loop-i-init c = search (rules, wrote_none, columns_none)

pub loop-i-preserved : goal.loop-i-preserved
loop-i-preserved c = search (rules, wrote_more, columns_more)

pub returns : goal.returns
returns c = search (rules, columns_all)
