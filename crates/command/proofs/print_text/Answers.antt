-- `command::print_text` meets its contract. What reading promises decides what is printed.
use Rattle.command.proofs.Prints.{read-refused, table-within, table-count, read-printed}
use Rattle.std.proofs.Common.{rules}
use Rattle.command.proofs.print_text.Goals as goal

pub slice_bounds-table-end : goal.slice_bounds-table-end
slice_bounds-table-end c = search (rules, table-within)

pub slice_bounds-print_table-end : goal.slice_bounds-print_table-end
slice_bounds-print_table-end c = search (rules, table-count)

pub returns-in-Err : goal.returns-in-Err
returns-in-Err c = search (rules, read-refused)

pub returns-in-Ok : goal.returns-in-Ok
returns-in-Ok c = search (rules, read-printed)
