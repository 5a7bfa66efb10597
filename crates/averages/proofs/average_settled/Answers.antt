-- `averages::average_settled` meets its contract. What the check promises decides the answer; the sizes stand in set order.
use Rattle.std.proofs.lemmas.Result.{err_from_is_err_and}
use Rattle.bounds.specs.Laws.Starts.{starts-own}
use Rattle.averages.proofs.Answers.{is-emptied, some_size, is-settled, few-sets}
use Rattle.std.proofs.Common.{rules}
use Rattle.averages.proofs.average_settled.Goals as goal

pub check_valid-requires : goal.check_valid-requires
check_valid-requires c = search (rules, starts-own)

pub returns-in_err-check_valid : goal.returns-in_err-check_valid
returns-in_err-check_valid c =
    let p = err_from_is_err_and c.from_residual.result c.from_residual.ensures.1 in
    rw (p.1, p.2) (is-emptied _ _ _ c.requires.valid_totals c.requires.sizes_len c.check_valid.ensures _ _ c.in_err-check_valid.was)

pub offset_bounds-sizes-r : goal.offset_bounds-sizes-r
offset_bounds-sizes-r c = search (rules, few-sets)

pub bounds-sizes-r : goal.bounds-sizes-r
bounds-sizes-r c = search (rules, few-sets)

pub offset_bounds-sizes-q : goal.offset_bounds-sizes-q
offset_bounds-sizes-q c = search (rules, few-sets)

pub bounds-sizes-q : goal.bounds-sizes-q
bounds-sizes-q c = search (rules, few-sets)

pub divide-requires : goal.divide-requires
divide-requires c =
    some_size _ _ _ c.requires.valid_totals c.requires.sizes_len c.check_valid.ensures c.in_ok-check_valid.was c.requires.q_bound

pub returns : goal.returns
returns c =
    is-settled _ _ _ c.requires.valid_totals c.requires.sizes_len c.check_valid.ensures c.in_ok-check_valid.was _ _
    c.requires.r_bound c.requires.q_bound c.divide.ensures
