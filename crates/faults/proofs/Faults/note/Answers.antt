-- `Faults::note` meets its contract. A fault lowers the entry.
use Rattle.faults.proofs.Noting.{note_kept, note_first, note_lower, note_higher}
use Rattle.std.proofs.Common.{rules}
use Rattle.faults.proofs.Faults.note.Goals as goal
use Rattle.faults.proofs.Faults.note.Goals.{then-entry-eq0-via-then-entry-eq0, then-entry-eq0-via-else-entry-eq0+then-number-entry}

pub returns-then-kept : goal.returns-then-kept
returns-then-kept c = search (rules, note_kept)

pub returns-then-entry-eq0 : goal.returns-then-entry-eq0
returns-then-entry-eq0 c =
    elim c.then-entry-eq0.branch [
      | then-entry-eq0-via-then-entry-eq0 w ↦ search (rules, note_first)
      | then-entry-eq0-via-else-entry-eq0+then-number-entry w ↦ search (rules, note_lower)
    ]

pub returns-else-number-entry : goal.returns-else-number-entry
returns-else-number-entry c = search (rules, note_higher)
