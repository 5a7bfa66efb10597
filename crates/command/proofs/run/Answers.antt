-- `command::run` meets its contract. 8,192 bytes count.
use Rattle.buffer.specs.Laws.{written_all}
use Rattle.command.proofs.Prints.{input-cut}
use Rattle.std.proofs.Common.{rules}
use Rattle.command.proofs.run.Goals as goal

pub returns : goal.returns
returns c =
    let printed = input-cut c.args.input.now {n = c.min.result} (search rules) c.print_text.ensures in
    search (rules, written_all c.new-out.ensures printed)
