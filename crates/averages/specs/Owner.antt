-- The predicate of a group, in the numbers of the definitions.
use Rattle.std.specs.Prelude.{ℕ, Some, None}
use Rattle.std.specs.Prelude as std
use Rattle.std.proofs.Math.Option.{Option, none, some}
use Rattle.orm.specs.Average.{PlacedGroup}

-- The set of the predicate of a group, if there is one
abbrev pub predicate_of : Option PlacedGroup → Option ℕ
predicate_of none = none
predicate_of (some g) = some g.predicate

abbrev pub owner_of : std.Option ℕ → Option ℕ
owner_of None = none
owner_of (Some own) = some own
