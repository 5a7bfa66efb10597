-- `writer::write` meets its contract. A table that is refused, or a valid one.
use Rattle.std.proofs.lemmas.Result.{err_from_is_err_and}
use Rattle.widening.specs.Laws.Accepts.{accepted-within, accepted-front}
use Rattle.writer.proofs.Answers.{refused-outcome, refused-kept, table_counted, table-outcome, table-written}
use Rattle.writer.proofs.write.Goals as goal

pub returns-in_err-widened : goal.returns-in_err-widened
returns-in_err-widened c =
    let p = err_from_is_err_and c.from_residual.result c.from_residual.ensures.1 in
    rw (p.1, p.2) (record {
      result_value = refused-outcome _ c.args.text.now c.in_err-widened.was c.accept.ensures.result_value;
      text_after = refused-kept _ c.args.text.now c.in_err-widened.was c.accept.ensures.result_value;
    })

pub slice_bounds-wide-end : goal.slice_bounds-wide-end
slice_bounds-wide-end c = accepted-within _ _ c.in_ok-widened.was c.accept.ensures.result_value c.accept.ensures.wide_after

pub slice_bounds-write_valid-end : goal.slice_bounds-write_valid-end
slice_bounds-write_valid-end c = accepted-front _ _ c.in_ok-widened.was c.accept.ensures.result_value c.accept.ensures.wide_after

pub write_valid-requires : goal.write_valid-requires
write_valid-requires c = table_counted _ _ c.in_ok-widened.was c.accept.ensures.result_value c.accept.ensures.wide_after

pub returns : goal.returns
returns c = record {
  result_value = table-outcome _ _ c.in_ok-widened.was c.accept.ensures.result_value c.accept.ensures.wide_after c.args.text.now c.write_valid.ensures.result_value;
  text_after = table-written _ _ c.in_ok-widened.was c.accept.ensures.result_value c.accept.ensures.wide_after c.args.text.now c.write_valid.ensures.text_after;
}
