-- `limits::write_types` meets its contract.
use Rattle.buffer.specs.Laws.{written_all}
use Rattle.std.proofs.Common.{rules}
use Rattle.limits.proofs.write_types.Goals as goal

pub returns : goal.returns
returns c = search (rules, written_all)
