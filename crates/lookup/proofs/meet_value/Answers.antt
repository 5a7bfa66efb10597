-- A value that is no member leaves the marks as they are.
use Rattle.lookup.proofs.Walks.{next-absent, place-marked, next_again, next-new}
use Rattle.std.proofs.Common.{rules}
use Rattle.lookup.proofs.meet_value.Goals as goal

pub returns-in_default-clause-next : goal.returns-in_default-clause-next
returns-in_default-clause-next c = next-absent _ _ _ _ _ c.place.ensures c.requires.marked c.in_default.not-Some

pub offset_bounds-marks-i : goal.offset_bounds-marks-i
offset_bounds-marks-i c = search (rules, place-marked)

pub bounds-marks-i : goal.bounds-marks-i
bounds-marks-i c = search (rules, place-marked)

pub returns-then-marks-i-clause-next : goal.returns-then-marks-i-clause-next
returns-then-marks-i-clause-next c = search (rules, next_again)

pub offset_bounds-marks-i-2 : goal.offset_bounds-marks-i-2
offset_bounds-marks-i-2 c = search (rules, place-marked)

pub bounds-marks-i-2 : goal.bounds-marks-i-2
bounds-marks-i-2 c = search (rules, place-marked)

pub returns-clause-next : goal.returns-clause-next
returns-clause-next c = search (rules, next-new)
