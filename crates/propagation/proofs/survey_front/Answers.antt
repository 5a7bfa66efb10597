-- `propagation::survey_front` meets its contract. Too few bounds, or what the limits say of the front of the buffer.
use Rattle.propagation.proofs.Answers.{front-counts, closed-front, survey-short, survey-done}
use Rattle.std.proofs.Common.{rules}
use Rattle.propagation.proofs.survey_front.Goals as goal

pub returns-then-sizes-sets : goal.returns-then-sizes-sets
returns-then-sizes-sets c = search (rules, survey-short)

pub slice_bounds-any_lowers-end : goal.slice_bounds-any_lowers-end
slice_bounds-any_lowers-end c = search (rules, front-counts)

pub any_lowers-lowers-requires : goal.any_lowers-lowers-requires
any_lowers-lowers-requires c = search (rules, closed-front)

pub returns : goal.returns
returns c = search (rules, survey-done)
