-- `writer::text_length` meets its contract. The scratch has room for the text, which ends at its length.
use Rattle.writer.proofs.Answers.{text-end}
use Rattle.std.proofs.Common.{rules}
use Rattle.writer.proofs.text_length.Goals as goal

pub returns : goal.returns
returns c = search (rules, text-end)
