-- `validator::first_by` meets its contract. The first entry after both passes is the answer, and so is one of K1 to K4 after the first.
use Rattle.validator.proofs.Passes.{first-is, first_final, room-scratch}
use Rattle.std.proofs.Common.{rules}
use Rattle.validator.proofs.first_by.Goals as goal

pub returns-then-is_final : goal.returns-then-is_final
returns-then-is_final c = search (rules, first_final)

pub pass-requires-2-clause-scratch : goal.pass-requires-2-clause-scratch
pass-requires-2-clause-scratch c = search (rules, room-scratch)

pub returns : goal.returns
returns c = search (rules, first-is)
