-- The range that the code's bounds stand for.
use Rattle.std.specs.Prelude.{ℕ, Option, Some, None}
use Rattle.orm.specs.Form.{Range, ◌to◌, unlimited}

abbrev pub range_of : Option (ℕ × ℕ) → Range
range_of (Some r) = r.0 to r.1
range_of None = unlimited
