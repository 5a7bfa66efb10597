-- `cases::write_numbers` meets its contract.
use Rattle.buffer.specs.Laws.{written_all}
use Rattle.std.proofs.Common.{rules}
use Rattle.cases.proofs.write_numbers.Goals as goal

pub returns : goal.returns
returns c = search (rules, written_all)
