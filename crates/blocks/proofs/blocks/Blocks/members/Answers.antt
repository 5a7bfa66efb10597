-- As many as the size cell says, and no more than there are.
use Rattle.blocks.specs.Places.{members-are}
use Rattle.std.proofs.Common.{arith}
use Rattle.blocks.proofs.blocks.Blocks.members.Goals as goal

pub returns-clause-values : goal.returns-clause-values
returns-clause-values c =
    rw (← c.block-at.ensures)
    (members-are _ _ _ (omega (arith, c.next-start.ensures.value)) c.next-start.ensures.cells_value c.size.ensures.value c.next-end.ensures.value)
