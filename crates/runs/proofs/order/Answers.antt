-- `runs::order` meets its contract. The list has room for the rows that are sorted.
use Rattle.order.specs.Parts.{part-is, part-long, part-scratch}
use Rattle.runs.proofs.Walked.{ready_not, ready_sorted}
use Rattle.std.proofs.Common.{rules}
use Rattle.runs.proofs.order.Goals as goal

pub returns-then-count-le16 : goal.returns-then-count-le16
returns-then-count-le16 c = search (rules, ready_not)

pub slice_bounds-sort-end-2 : goal.slice_bounds-sort-end-2
slice_bounds-sort-end-2 c = search (rules, part-long)

pub sort-requires-clause-scratch : goal.sort-requires-clause-scratch
sort-requires-clause-scratch c = search (rules, part-scratch)

pub sort-requires-clause-list_len_bound : goal.sort-requires-clause-list_len_bound
sort-requires-clause-list_len_bound c = search (rules, part-is)

pub returns : goal.returns
returns c = search (rules, ready_sorted)
