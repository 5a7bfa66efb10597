-- `writer::push_types` meets its contract. The first line, their number, then their lines.
use Rattle.writer.proofs.Texts.{types_are}
use Rattle.orm.specs.Text.{bytes}
use Rattle.std.proofs.Common.{rules}
use Rattle.writer.proofs.push_types.Goals as goal

pub returns : goal.returns
unfolding bytes
returns c = search (rules, types_are)
