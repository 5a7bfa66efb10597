use Rattle.std.proofs.Common.{refl}
use Rattle.table.specs.Cursors.{placed_at}
use Rattle.selection.specs.Laws.Writes.{wrote_more}
use Rattle.limits.proofs.preds.push_parts.Goals as goal

pub returns : goal.returns
unfolding placed_at
returns c = wrote_more c.push_up.ensures c.push_in_group.ensures refl
