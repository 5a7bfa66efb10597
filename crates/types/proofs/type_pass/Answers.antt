-- `types::type_pass` meets its contract. More members than there is room for break K2.
use Rattle.order.specs.Parts.{part-long}
use Rattle.types.proofs.Members.{spare_room, part-sized, many-told, sorted-told}
use Rattle.std.proofs.Common.{rules}
use Rattle.types.proofs.type_pass.Goals as goal

pub returns-then-list-count : goal.returns-then-list-count
returns-then-list-count c = search (rules, many-told)

pub slice_bounds-sorted_pass-end-2 : goal.slice_bounds-sorted_pass-end-2
slice_bounds-sorted_pass-end-2 c = search (rules, part-long)

pub slice_bounds-sorted_pass-end-3 : goal.slice_bounds-sorted_pass-end-3
slice_bounds-sorted_pass-end-3 c = search (rules, spare_room)

pub slice_bounds-sorted_pass-end-4 : goal.slice_bounds-sorted_pass-end-4
slice_bounds-sorted_pass-end-4 c = search (rules, part-long, spare_room)

pub sorted_pass-requires-clause-sized : goal.sorted_pass-requires-clause-sized
sorted_pass-requires-clause-sized c = search (rules, part-sized)

pub returns : goal.returns
returns c = search (rules, sorted-told)
