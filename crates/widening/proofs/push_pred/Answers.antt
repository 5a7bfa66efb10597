use Rattle.std.proofs.Common.{refl}
use Rattle.buffer.specs.Laws.{wrote_then, wrote_as}
use Rattle.widening.specs.Laws.Writes.{pred_put}
use Rattle.widening.proofs.push_pred.Goals as goal

pub returns-clause-wrote : goal.returns-clause-wrote
returns-clause-wrote c = wrote_as (wrote_then (wrote_then c.append.ensures c.push_roles.ensures) c.append-2.ensures) (pred_put _ refl refl)
