-- Reading and writing undo each other, whole: over the definitions that the contracts of `read` and `write` cite.
use Rattle.std.specs.Prelude.{ℕ, ◌≤◌, ◌≡◌, List, length}
use Rattle.orm.specs.Text.{text_line, table_line}
use Rattle.orm.specs.Outcome.{accepted}
use Rattle.orm.specs.Calls.{diagram_in, read_call, write_call}
use Rattle.reading.specs.Laws.{text-accepted-iff, table-accepted-iff, fits, read-call_converts, write_call_converts}

-- An accepted text, read and written again, is the same text
pub read-then_write : (text : List ℕ) (s₁ : ℕ) (t : List ℕ) (s₂ : ℕ) → read_call text s₁ ≡ accepted t → length text ≤ s₂
    → write_call t s₂ ≡ accepted text
unfolding write_call
read-then_write text s₁ t s₂ e h =
    let c = read-call_converts text s₁ t e in
    let reads : diagram_in table_line t ≡ accepted c.diagram = (table-accepted-iff t c.diagram).1 (c.written_to, c.well_formed) in
    rw (reads, ← c.read_from) (fits s₂ text h)

-- An accepted table, written and read again, is the same table
pub write_then-read : (t : List ℕ) (s₁ : ℕ) (text : List ℕ) (s₂ : ℕ) → write_call t s₁ ≡ accepted text → length t ≤ s₂
    → read_call text s₂ ≡ accepted t
unfolding read_call
write_then-read t s₁ text s₂ e h =
    let c = write_call_converts t s₁ text e in
    let reads : diagram_in text_line text ≡ accepted c.diagram = (text-accepted-iff text c.diagram).1 (c.written_to, c.well_formed) in
    rw (reads, ← c.read_from) (fits s₂ t h)
