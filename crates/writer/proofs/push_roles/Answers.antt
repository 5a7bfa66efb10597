use Rattle.buffer.specs.Laws.{writing_start, writing_more, writing_all}
use Rattle.writer.proofs.Texts.{roles-next, roles-end}
use Rattle.std.proofs.Common.{rules}
use Rattle.writer.proofs.push_roles.Goals as goal

pub loop-init : goal.loop-init
loop-init c = search (rules, writing_start)

pub loop-preserved : goal.loop-preserved
loop-preserved c = search (rules, writing_more, roles-next)

pub returns : goal.returns
returns c = search (rules, writing_all, roles-end)
