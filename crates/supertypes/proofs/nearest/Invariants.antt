-- The climb that is left from the type reached comes to the whole.
use Rattle.std.proofs.Common.{◌≡◌, ◌-◌, drop}
use Rattle.orm.specs.Supertypes.{climb, has_range_at, nearest}
use Rattle.reading.specs.Walk.{types_in}
use Rattle.supertypes.proofs.nearest.Given as goal

abbrev pub invariant-loop : goal.invariant-loop
invariant-loop l = climb (has_range_at (types_in l.count (drop 2 l.t))) (types_in l.count (drop 2 l.t)) (l.a - l.counter) l.x ≡ nearest (types_in l.count (drop 2 l.t)) l.a
