use Rattle.std.proofs.Common.{refl, ◌∙◌}
use Rattle.rounds.proofs.Running.{turn_start, count_fits, turn_emptied, turn_settled, turn_falls, turn_more}
use Rattle.rounds.proofs.Rounds.rounds_from.Goals as goal
use Rattle.rounds.proofs.Rounds.rounds_from.Goals.{in-Emptied, in-Settled}

pub loop-set-init : goal.loop-set-init
loop-set-init c = (refl, turn_start c.requires.bounds c.requires.scratch c.requires.above)

pub overflow_add-n : goal.overflow_add-n
overflow_add-n c = count_fits c.loop-set.invariant.1

pub loop-set-smaller : goal.loop-set-smaller
loop-set-smaller c = turn_falls c.loop-set.invariant.1 c.turn.ensures _ c.in-Going.is

pub loop-set-preserved : goal.loop-set-preserved
loop-set-preserved c =
    let inv = c.loop-set.invariant in
    (inv.0, turn_more inv.1 c.turn.ensures _ c.in-Going.is c.relink.ensures)

pub returns : goal.returns
returns c =
    let inv = c.loop-set.invariant in
    elim c.match-turn.branch [
      | in-Emptied w ↦ turn_emptied inv.1 c.turn.ensures w.rounds-is c.ended.ensures _ w.in-Emptied.is w.end-is
      | in-Settled w ↦ turn_settled inv.1 c.turn.ensures w.rounds-is c.ended.ensures w.in-Settled.is (w.end-is ∙ inv.0)
    ]
