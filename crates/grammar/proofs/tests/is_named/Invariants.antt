-- The roles from the one at hand on decide as all do.
use Rattle.std.proofs.Common.{◌≡◌, ◌+◌, ◌*◌, ◌-◌, ◌≤◌, drop}
use Rattle.orm.specs.Form.{named}
use Rattle.reading.specs.Walk.{roles_at}
use Rattle.grammar.proofs.tests.is_named.Given as goal

abbrev pub invariant-loop : goal.invariant-loop
invariant-loop l =
    (l.at ≤ l.first + 6 * l.counter)
    × (named l.group (roles_at l.kind (l.count - l.counter) (drop l.at l.numbers)) ≡ named l.group (roles_at l.kind l.count (drop l.first l.numbers)))
