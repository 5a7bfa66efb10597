-- `command::print_valid` meets its contract. What the check promises decides what is printed.
use Rattle.bounds.specs.Laws.Starts.{starts-own}
use Rattle.bounds.specs.Laws.Ends.{sizes-within, sizes-count, sizes-settled}
use Rattle.command.proofs.Prints.{check-refused}
use Rattle.std.proofs.Common.{rules}
use Rattle.command.proofs.print_valid.Goals as goal

pub check_valid-requires : goal.check_valid-requires
check_valid-requires c = search (rules, starts-own)

pub returns-in-Err : goal.returns-in-Err
returns-in-Err c = search (rules, check-refused)

pub slice_bounds-sizes-end : goal.slice_bounds-sizes-end
slice_bounds-sizes-end c = search (rules, sizes-within, starts-own)

pub slice_bounds-print_cells-end : goal.slice_bounds-print_cells-end
slice_bounds-print_cells-end c = search (rules, sizes-count, starts-own)

pub print_cells-requires : goal.print_cells-requires
print_cells-requires c = search (rules, sizes-settled, starts-own)
