use Rattle.reading.specs.Cutting.{text_cuts}
use Rattle.reader.proofs.Stored.{stored-start, stored-halted, stored_on, stored-over}
use Rattle.reader.proofs.Turns.{is-going, start-room, as_long, number_fits, front-text, turn_room, turn_number, turn_less, turn_on, turn_halted, surplus, whole}
use Rattle.reader.proofs.Turns.{ended-halted, ended-surplus, ended-whole}
use Rattle.grammar.specs.Laws.Room.{room_most}
use Rattle.std.proofs.Common.{rules}
use Rattle.reader.proofs.walk.read_lines.Goals as goal

pub loop-table-init : goal.loop-table-init
loop-table-init c = search (rules, start-room, stored-start)

pub text_step-line-requires : goal.text_step-line-requires
text_step-line-requires c = search (rules, is-going)

pub returns-in_default-clause-result_value : goal.returns-in_default-clause-result_value
returns-in_default-clause-result_value c = search (rules, ended-halted, text_cuts, front-text)

pub returns-in_default-clause-table_after : goal.returns-in_default-clause-table_after
returns-in_default-clause-table_after c = search (rules, stored-halted)

pub returns-in_default-clause-result_after : goal.returns-in_default-clause-result_after
returns-in_default-clause-result_after c = search (rules, turn_halted, text_cuts, front-text)

pub overflow_add-number : goal.overflow_add-number
overflow_add-number c = search (rules, number_fits)

pub loop-table-smaller : goal.loop-table-smaller
loop-table-smaller c = search (rules, turn_less, text_cuts, front-text)

pub loop-table-preserved : goal.loop-table-preserved
loop-table-preserved c = (
  search (rules, as_long),
  search (turn_number, text_cuts, front-text),
  search (turn_room, text_cuts, front-text),
  record { run = search (turn_on, text_cuts, front-text); stored = search (stored_on, front-text) },
)

pub returns-then-at-text-clause-result_value : goal.returns-then-at-text-clause-result_value
returns-then-at-text-clause-result_value c = search (rules, ended-surplus, text_cuts)

pub returns-then-at-text-clause-table_after : goal.returns-then-at-text-clause-table_after
returns-then-at-text-clause-table_after c = search (rules, stored-over)

pub returns-then-at-text-clause-result_after : goal.returns-then-at-text-clause-result_after
returns-then-at-text-clause-result_after c = search (rules, surplus, text_cuts)

pub returns-clause-result_value : goal.returns-clause-result_value
returns-clause-result_value c = search (rules, ended-whole, text_cuts, front-text)

pub returns-clause-table_after : goal.returns-clause-table_after
returns-clause-table_after c = search (rules, stored-over)

pub returns-clause-inside : goal.returns-clause-inside
returns-clause-inside c = search (rules, room_most)

pub returns-clause-result_after : goal.returns-clause-result_after
returns-clause-result_after c = search (rules, whole, text_cuts)
