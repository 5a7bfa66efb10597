-- What a call comes to for a valid table.
use Rattle.std.specs.Prelude.{ℕ, List}
use Rattle.orm.specs.Outcome.{Outcome, ◌>>=◌, Sized}
use Rattle.orm.specs.Sets.{lower, upper, verdict_from}
use Rattle.orm.specs.Calls.{settled_into}
use Rattle.orm.specs.Prescribe.{set_in, raised_at, capped_at}
use Rattle.table.specs.Positions.{diagram_of}
use Rattle.populate.specs.Answer.{cells_of}

-- The outcome for a valid table, with the set at this index kept to the wanted size
abbrev pub kept_at : List ℕ → ℕ → ℕ → ℕ → Outcome Sized
kept_at t s wanted space =
    let d = diagram_of t in
    settled_into 11 (cells_of d) (verdict_from d (raised_at s wanted (lower d)) (capped_at s wanted (upper d))) space

-- and with the set of any number
abbrev pub numbered : List ℕ → ℕ → ℕ → ℕ → Outcome Sized
numbered t number wanted space = set_in (diagram_of t) number >>= λ s. kept_at t s wanted space
