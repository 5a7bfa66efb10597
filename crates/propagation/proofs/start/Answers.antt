-- `propagation::start` meets its contract. A table that is refused, or the bounds that its diagram starts from.
use Rattle.std.proofs.lemmas.Result.{err_from_is_err_and}
use Rattle.widening.specs.Laws.Accepts.{accepted-within, accepted-front}
use Rattle.widening.specs.Laws.Counts.{accepted-few}
use Rattle.propagation.proofs.Problems.{table-bounded, start-refused, start-widened}
use Rattle.propagation.proofs.start.Goals as goal

pub returns-in_err-widened : goal.returns-in_err-widened
returns-in_err-widened c =
    let p = err_from_is_err_and c.from_residual.result c.from_residual.ensures.1 in
    let h = start-refused _ c.accept.ensures.result_value c.args.sizes.now c.in_err-widened.was in
    rw (p.1, p.2) (record { result_value = h.handed; sizes_after = h.buffer })

pub slice_bounds-wide-end : goal.slice_bounds-wide-end
slice_bounds-wide-end c = accepted-within _ _ c.in_ok-widened.was c.accept.ensures.result_value c.accept.ensures.wide_after

pub slice_bounds-fit-end : goal.slice_bounds-fit-end
slice_bounds-fit-end c = accepted-front _ _ c.in_ok-widened.was c.accept.ensures.result_value c.accept.ensures.wide_after

pub set_count-requires : goal.set_count-requires
set_count-requires c = accepted-few _ _ c.in_ok-widened.was c.accept.ensures.result_value c.accept.ensures.wide_after

pub fit-requires : goal.fit-requires
fit-requires c = table-bounded _ c.accept.ensures.result_value _ c.in_ok-widened.was c.accept.ensures.wide_after c.set_count.ensures

pub returns : goal.returns
returns c =
    let h = start-widened _ c.accept.ensures.result_value _ c.in_ok-widened.was c.accept.ensures.wide_after c.fit.ensures in
    record { result_value = h.handed; sizes_after = h.buffer }
