-- `writer::push_pred` meets its contract. Its own line, its roles' and its groups'.
use Rattle.writer.proofs.Texts.{pred-is}
use Rattle.orm.specs.Text.{bytes}
use Rattle.std.proofs.Common.{rules}
use Rattle.writer.proofs.push_pred.Goals as goal

pub returns : goal.returns
unfolding bytes
returns c = search (rules, pred-is)
