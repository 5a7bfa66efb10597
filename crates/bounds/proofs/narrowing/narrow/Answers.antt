-- `bounds::narrowing::narrow` meets its contract. One set's bounds, or none.
use Rattle.bounds.proofs.Starting.{kept-among, narrowed_own, narrowed_kept}
use Rattle.std.proofs.Common.{rules}
use Rattle.bounds.proofs.narrowing.narrow.Goals as goal

pub raise-requires : goal.raise-requires
raise-requires c = search (rules, kept-among)

pub cap-requires : goal.cap-requires
cap-requires c = search (rules, kept-among)

pub returns-in-Own : goal.returns-in-Own
returns-in-Own c = search (rules, narrowed_own)

pub returns-in-Kept : goal.returns-in-Kept
returns-in-Kept c = search (rules, narrowed_kept)
