-- `command::print_table` meets its contract. A table that is refused, or a valid one.
use Rattle.widening.specs.Laws.Accepts.{accepted-within, accepted-front}
use Rattle.bounds.specs.Laws.Tables.{table-totals}
use Rattle.command.proofs.Prints.{table-refused, table-printed}
use Rattle.std.proofs.Common.{rules}
use Rattle.command.proofs.print_table.Goals as goal

pub slice_bounds-wide-end : goal.slice_bounds-wide-end
slice_bounds-wide-end c = search (rules, accepted-within)

pub slice_bounds-print_valid-end : goal.slice_bounds-print_valid-end
slice_bounds-print_valid-end c = search (rules, accepted-front)

pub print_valid-requires : goal.print_valid-requires
print_valid-requires c = search (rules, table-totals)

pub returns-in-Err : goal.returns-in-Err
returns-in-Err c = search (rules, table-refused)

pub returns-in-Ok : goal.returns-in-Ok
returns-in-Ok c = search (rules, table-printed)
