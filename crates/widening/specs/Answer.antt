-- What accepting a table answers and writes, in document 01's numbers; and what a caller has of an accepted one.
use Rattle.std.specs.Prelude.{ℕ, ◌≤◌, ◌≡◌, List, length, Result, Ok, Err}
use Rattle.orm.specs.Diagram.{Diagram, Totals, totals}
use Rattle.orm.specs.Text.{table_line}
use Rattle.orm.specs.Outcome.{Outcome, accepted, ◌>>=◌}
use Rattle.orm.specs.Calls.{diagram_in}
use Rattle.reading.specs.WideTable.{wide_table}
use Rattle.refusals.specs.Refusal.{refusal_of}
use Rattle.refusals.specs.declared.Refusal.{Refusal}
use Rattle.table.specs.Positions.{diagram_of}
use Rattle.table.specs.Valid.{Valid}
use Rattle.widening.specs.declared.Widened.{Widened}

-- The length of a diagram's table with role lines of one width, and what the diagram has
pub record Described : Type 0 where
  pub wide_length : ℕ
  pub totals : Totals

abbrev pub described : Outcome Diagram → Outcome Described
described o = o >>= λ d. accepted (record { wide_length = length (wide_table d); totals = totals d })

-- Of each answer document 01's number, place and round; or what is told of the diagram
abbrev pub acceptance_of : Result Widened Refusal → Outcome Described
acceptance_of (Ok w) =
    accepted (record { wide_length = w.length; totals = record { types = w.types; preds = w.preds; roles = w.roles; groups = w.groups } })
acceptance_of (Err r) = refusal_of r

-- What is written
abbrev pub widened : List ℕ → Outcome (List ℕ)
widened t = diagram_in table_line t >>= λ d. accepted (wide_table d)

-- The table `t` was accepted, and `w` is the same with role lines of one width; its diagram has so many types, predicates, roles and groups
pub record Accepted (t w : List ℕ) (types preds roles groups : ℕ) : Type 0 where
  pub valid : Valid w
  pub reads : diagram_in table_line t ≡ accepted (diagram_of w)
  pub totals_are : totals (diagram_of w) ≡ record { types = types; preds = preds; roles = roles; groups = groups }

-- So many types, predicates, roles and groups as a diagram can have
pub record Few (types preds roles groups : ℕ) : Type 0 where
  pub few_types : types ≤ 32
  pub few_preds : preds ≤ 32
  pub few_roles : roles ≤ 96
  pub few_groups : groups ≤ 48
