use Rattle.std.proofs.Common.{sym}
use Rattle.population.proofs.Writing.{wrote_as}
use Rattle.population.proofs.RowLaws.{rows-indices, rows-stepped, rows_roomy, flat-within, flat-count, flat-under, row-is}
use Rattle.population.proofs.rows.push_row.Goals as goal

pub tuple_each-n-requires-clause-indices : goal.tuple_each-n-requires-clause-indices
tuple_each-n-requires-clause-indices c = rows-indices c.requires.planned c.requires.stepped c.requires.i_bound c.requires.indices_len c.tuple.ensures

pub tuple_each-n-requires-clause-stepped : goal.tuple_each-n-requires-clause-stepped
tuple_each-n-requires-clause-stepped c = rows-stepped c.requires.planned c.requires.stepped c.requires.i_bound c.requires.indices_len c.tuple.ensures

pub tuple_each-n-requires-clause-room : goal.tuple_each-n-requires-clause-room
tuple_each-n-requires-clause-room c = rows_roomy c.requires.planned c.requires.stepped c.requires.i_bound c.requires.indices_len c.tuple.ensures c.args.flat.now c.requires.flat_len

pub slice_bounds-push_cells-end : goal.slice_bounds-push_cells-end
slice_bounds-push_cells-end c = flat-within c.requires.planned c.requires.stepped c.requires.i_bound c.requires.indices_len c.tuple.ensures c.requires.flat_len c.tuple_each-n.ensures.stored c.tuple_each-n.ensures.value

pub slice_bounds-push_cells-end-2 : goal.slice_bounds-push_cells-end-2
slice_bounds-push_cells-end-2 c = flat-count c.requires.planned c.requires.stepped c.requires.i_bound c.requires.indices_len c.tuple.ensures c.requires.flat_len c.tuple_each-n.ensures.stored c.tuple_each-n.ensures.value

pub push_cells-requires-clause-under : goal.push_cells-requires-clause-under
push_cells-requires-clause-under c = flat-under c.requires.planned c.requires.stepped c.requires.i_bound c.requires.indices_len c.tuple.ensures c.requires.flat_len c.tuple_each-n.ensures.stored c.tuple_each-n.ensures.value

pub returns : goal.returns
returns c = wrote_as c.push_cells.ensures (sym (row-is c.requires.planned c.requires.stepped c.requires.i_bound c.requires.indices_len c.tuple.ensures c.requires.flat_len c.tuple_each-n.ensures.stored c.tuple_each-n.ensures.value))
