-- `command::print_cells` meets its contract. What populating promises decides what is printed.
use Rattle.populate.specs.Laws.{settled-small}
use Rattle.command.proofs.Prints.{fill_refused, cells-within, cells_count, table-walkable, fill_printed}
use Rattle.std.proofs.Common.{rules}
use Rattle.command.proofs.print_cells.Goals as goal

pub populate_settled-requires : goal.populate_settled-requires
populate_settled-requires c = search (rules, settled-small)

pub returns-in-Err : goal.returns-in-Err
returns-in-Err c = search (rules, fill_refused)

pub slice_bounds-push_report-end : goal.slice_bounds-push_report-end
slice_bounds-push_report-end c = search (rules, cells-within)

pub slice_bounds-push_report-end-in-Ok : goal.slice_bounds-push_report-end-in-Ok
slice_bounds-push_report-end-in-Ok c = search (rules, cells_count)

pub push_report-requires : goal.push_report-requires
push_report-requires c = search (rules, table-walkable)

pub returns-in-Ok : goal.returns-in-Ok
returns-in-Ok c = search (rules, fill_printed)
