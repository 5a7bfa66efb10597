-- `lines_main::push_entry` meets its contract. Its parts are written one after another.
use Rattle.lines_main.proofs.Writing.{wrote-entry}
use Rattle.std.proofs.Common.{rules}
use Rattle.lines_main.proofs.push_entry.Goals as goal

pub returns : goal.returns
returns c = search (rules, wrote-entry)
