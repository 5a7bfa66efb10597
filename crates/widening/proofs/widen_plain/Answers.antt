use Rattle.buffer.specs.Laws.{wrote_then, wrote_as}
use Rattle.widening.specs.Laws.Writes.{plain_put}
use Rattle.widening.proofs.widen_plain.Goals as goal

pub returns : goal.returns
returns c = wrote_as (wrote_then (wrote_then c.append.ensures c.push_preds.ensures) c.append-2.ensures) (plain_put _ _ _ c.requires)
