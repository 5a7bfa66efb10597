use Rattle.buffer.specs.Laws.{wrote_then, wrote_as}
use Rattle.widening.specs.Laws.Writes.{role_is}
use Rattle.widening.proofs.push_role.Goals as goal

pub returns : goal.returns
returns c = wrote_as (wrote_then (wrote_then c.append.ensures c.push.ensures) c.push-2.ensures) (role_is _ c.requires)
