-- `types::sorted_pass` meets its contract. The rest is told only where K1 and K2 are kept.
use Rattle.types.proofs.Members.{sorted-paired, told-broken, told-kept}
use Rattle.std.proofs.Common.{rules}
use Rattle.types.proofs.sorted_pass.Goals as goal

pub members_pass-requires-clause-paired : goal.members_pass-requires-clause-paired
members_pass-requires-clause-paired c = search (rules, sorted-paired)

pub returns-then-note_size : goal.returns-then-note_size
returns-then-note_size c = search (rules, told-kept)

pub returns-else-note_size : goal.returns-else-note_size
returns-else-note_size c = search (rules, told-broken)
