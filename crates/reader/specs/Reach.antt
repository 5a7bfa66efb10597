-- The next line of a text or a table, and where it leads.
use Rattle.std.specs.Prelude.{ℕ, ◌+◌, Result, Ok, Err, List, ◌++◌, length, take, drop}
use Rattle.orm.specs.Diagram.{LineKind}
use Rattle.orm.specs.Reader.{Cut, broken, cut}
use Rattle.grammar.specs.declared.Fault.{Fault}
use Rattle.grammar.specs.declared.Fault.TheVariants.{Malformed}
use Rattle.grammar.specs.declared.Awaited.{Awaited}
use Rattle.grammar.specs.Fault.{number_of}
use Rattle.grammar.specs.Awaited.{kind_at}
use Rattle.grammar.specs.Step.{refusing, going, step_at}
use Rattle.refusals.specs.declared.Refusal.{Refusal}
use Rattle.refusals.specs.declared.Refusal.TheVariants.{Faulty}
use Rattle.reader.specs.declared.Reached.{Reached}
use Rattle.reader.specs.declared.Whole.{Whole}

-- A refusal; or the next place, the numbers so far, how many they are, and what follows
pub data Reach : Type 0 where
  halted : ℕ → Reach
  reached : Awaited → List ℕ → ℕ → List ℕ → Reach

-- Positions in the source stand for what follows them
abbrev pub line_of : List ℕ → List ℕ → Result Reached Fault → Reach
line_of source table (Ok r) = reached r.place (take r.end table) r.end (drop r.at source)
line_of source table (Err f) = halted (number_of f)

-- `next` cuts off the line
unfoldable pub line_step : (LineKind → List ℕ → Cut) → Awaited → List ℕ → List ℕ → Reach
line_step next p acc s =
    elim (next (kind_at p) s) [
      | broken ↦ halted 1
      | cut v rest ↦
          elim (step_at p acc v) [
            | refusing c ↦ halted c
            | going q ↦ reached q (acc ++ v) (length acc + length v) rest
          ]
    ]

-- The line at `at` in the source, after the numbers up to `end` in the table
abbrev pub step_from : (LineKind → List ℕ → Cut) → Awaited → List ℕ → ℕ → List ℕ → ℕ → Reach
step_from next p table end source at = line_step next p (take end table) (drop at source)

-- Only a line with a fault is refused
abbrev pub refused_at : Result Reached Fault → ℕ → Result Whole Refusal
refused_at (Ok r) n = Err (Faulty Malformed n)
refused_at (Err f) n = Err (Faulty f n)
