-- What the two public functions answer, in document 01's numbers: their contracts rest on this file and on orm.
use Rattle.std.specs.Prelude.{ℕ, Result, Ok, Err}
use Rattle.orm.specs.Diagram.{Diagram, totals}
use Rattle.orm.specs.Diagram as orm
use Rattle.orm.specs.Outcome.{Outcome, accepted, ◌>>=◌}
use Rattle.refusals.specs.declared.Refusal.{Refusal}
use Rattle.refusals.specs.Refusal.{refusal_of}
use Rattle.reader.specs.declared.Totals.{Totals}

abbrev pub totals_of : Totals → orm.Totals
totals_of t = record { types = t.types; preds = t.preds; roles = t.roles; groups = t.groups }

-- Of each answer document 01's number, place and round; or the length of the result
abbrev pub conversion_of : Result ℕ Refusal → Outcome ℕ
conversion_of (Ok length) = accepted length
conversion_of (Err r) = refusal_of r

-- Of each answer on a table document 01's number, place and round; or what its diagram has
abbrev pub form_of : Result Totals Refusal → Outcome orm.Totals
form_of (Ok t) = accepted (totals_of t)
form_of (Err r) = refusal_of r

abbrev pub totalled : Outcome Diagram → Outcome orm.Totals
totalled o = o >>= λ d. accepted (totals d)
