-- `writer::push_role` meets its contract. It is the line of the role there.
use Rattle.writer.proofs.Texts.{role-is}
use Rattle.orm.specs.Text.{bytes}
use Rattle.std.proofs.Common.{rules}
use Rattle.writer.proofs.push_role.Goals as goal

pub returns : goal.returns
unfolding bytes
returns c = search (rules, role-is)
