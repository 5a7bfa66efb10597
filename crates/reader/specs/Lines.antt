-- How the lines of a text or a table end, for both functions.
use Rattle.std.specs.Prelude.{ℕ, Result, Ok, Err, List, length, take}
use Rattle.orm.specs.Diagram.{Diagram, Totals, table, totals}
use Rattle.orm.specs.Outcome.{Outcome, accepted, ◌>>=◌}
use Rattle.reading.specs.Walk.{Summary, summary}
use Rattle.grammar.specs.declared.Counts.{Counts}
use Rattle.refusals.specs.declared.Refusal.{Refusal}
use Rattle.refusals.specs.Refusal.{refusal_of}
use Rattle.reader.specs.declared.Whole.{Whole}
use Rattle.reader.specs.Answer.{totals_of}

-- The length of a diagram's table, and what the diagram has
pub record Ended : Type 0 where
  pub table_length : ℕ
  pub totals : Totals

abbrev pub ended : Outcome Diagram → Outcome Ended
ended o = o >>= λ d. accepted (record { table_length = length (table d); totals = totals d })

-- Of each answer document 01's number and place; or what the diagram has
abbrev pub end_of : Result Whole Refusal → Outcome Ended
end_of (Ok w) = accepted (record { table_length = w.length; totals = totals_of w.totals })
end_of (Err r) = refusal_of r

-- ---- with the numbers themselves

abbrev pub summarised : Outcome Diagram → Outcome Summary
summarised o = o >>= λ d. accepted (summary d)

-- What stands at the front of `table` are the numbers of the lines
abbrev pub lines_of : List ℕ → Result Whole Refusal → Outcome Summary
lines_of table (Ok w) = accepted (record { numbers = take w.length table; totals = totals_of w.totals })
lines_of table (Err r) = refusal_of r

-- Of these counts, with a table of this length
abbrev pub whole_of : Counts → ℕ → Whole
whole_of c length = record { length = length; totals = record { types = c.types; preds = c.preds; roles = c.roles; groups = c.groups } }
