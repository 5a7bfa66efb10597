use Rattle.reading.specs.Cutting.{table_cuts}
use Rattle.reader.proofs.Turns.{is-going, start-room, number_fits, front-table, turn_room, turn_number, turn_less, turn_on, turn_halted, turn_level, surplus, whole}
use Rattle.reader.proofs.Turns.{ended-halted, ended-surplus, ended-whole}
use Rattle.std.proofs.Common.{rules}
use Rattle.reader.proofs.walk.table_lines.Goals as goal

pub loop-line-init : goal.loop-line-init
loop-line-init c = search (rules, start-room)

pub table_step-line-requires : goal.table_step-line-requires
table_step-line-requires c = search (rules, is-going)

pub returns-in_default : goal.returns-in_default
returns-in_default c = search (rules, ended-halted, turn_halted, table_cuts)

pub overflow_add-number : goal.overflow_add-number
overflow_add-number c = search (rules, number_fits)

pub loop-line-smaller : goal.loop-line-smaller
loop-line-smaller c = search (rules, turn_less, table_cuts)

pub loop-line-preserved : goal.loop-line-preserved
loop-line-preserved c = (
  search rules,
  search (turn_number, table_cuts, front-table),
  search (turn_room, table_cuts, front-table),
  turn_level _ _ _ _ c.in-Ok.ensures.level.0 (search (turn_on, table_cuts, front-table)),
)

pub returns-then-end-table : goal.returns-then-end-table
returns-then-end-table c = search (rules, ended-surplus, surplus, table_cuts)

pub returns : goal.returns
returns c = search (rules, ended-whole, whole, table_cuts, front-table)
