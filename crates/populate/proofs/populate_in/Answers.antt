-- `populate::populate_in` meets its contract. What the check promises decides the answer.
use Rattle.std.proofs.lemmas.Result.{err_from_is_err_and}
use Rattle.bounds.specs.Laws.Ends.{sizes-within, sizes-count}
use Rattle.populate.proofs.Answers.{front-small, front-filled, refused_on}
use Rattle.std.proofs.Common.{rules}
use Rattle.populate.proofs.populate_in.Goals as goal

pub returns-in_err-settled : goal.returns-in_err-settled
returns-in_err-settled c =
    let p = err_from_is_err_and c.from_residual.result c.from_residual.ensures.1 in
    rw (p.1, p.2) (refused_on _ _ _ _ _ c.requires.valid_totals c.requires.starts c.requires.sizes_len c.check_valid.ensures c.in_err-settled.was)

pub slice_bounds-populate_settled-end : goal.slice_bounds-populate_settled-end
slice_bounds-populate_settled-end c =
    sizes-within _ _ _ _ c.in_ok-settled.was c.requires.valid_totals c.requires.starts c.requires.sizes_len c.check_valid.ensures

pub slice_bounds-populate_settled-end-2 : goal.slice_bounds-populate_settled-end-2
slice_bounds-populate_settled-end-2 c =
    sizes-count _ _ _ _ c.in_ok-settled.was c.requires.valid_totals c.requires.starts c.requires.sizes_len c.check_valid.ensures

pub populate_settled-requires : goal.populate_settled-requires
populate_settled-requires c = record {
  valid = c.requires.valid_totals.valid;
  small = front-small _ _ _ _ c.in_ok-settled.was c.requires.valid_totals c.requires.starts c.requires.sizes_len c.check_valid.ensures;
}

pub returns : goal.returns
returns c =
    front-filled _ _ _ _ c.in_ok-settled.was c.requires.valid_totals c.requires.starts c.requires.sizes_len c.check_valid.ensures
    c.populate_settled.ensures
