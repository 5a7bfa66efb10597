-- `command::push_refusal` meets its contract. Its parts are written one after another.
use Rattle.command.proofs.Prints.{refusal_is}
use Rattle.std.proofs.Common.{rules}
use Rattle.command.proofs.push_refusal.Goals as goal

pub returns : goal.returns
returns c = search (rules, refusal_is)
